-- What clauses see of a lock and of a pass: which lock it is, and what the pass knows.
use Rattle.atomic_table.specs.Seated.{TableId}
use Rattle.turn_lock.specs.declared.history.History.{Ghosts}
use Rattle.turn_lock.specs.declared.lock.Turn.{Turn}
use Rattle.turn_lock.specs.declared.pass.Pass.{Pass}
use Rattle.turn_lock.specs.Known.{Known}
use Rattle.turn_lock.specs.View.{known_of}

abbrev pub lock_of : {S A E T : Type 0} → Turn S A E T → TableId
lock_of t = t.table.shared.table_id

abbrev pub own_lock : {S E T : Type 0} {g : Ghosts S E T} → Pass S E T g → TableId
own_lock p = p.seat.table_id

abbrev pub view : {S E T : Type 0} {g : Ghosts S E T} → Pass S E T g → Known E T
view p = known_of p.seat.me.0
