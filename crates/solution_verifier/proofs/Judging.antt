-- From what the tests of an event answer to the rules.
use Rattle.std.proofs.Common.{◌≡◌, ℕ, ◌<◌, ◌↔◌, List, [], length, Option, Some, None, Bool, false, refl, sym, subst, ◌∙◌, arith, IsTrue}
use Rattle.std.specs.Prelude.{slice_get, MatchOption, Contains}
use Rattle.std.specs.List.{Any}
use Rattle.std.proofs.lemmas.Bool.{false≢true}
use Rattle.std.proofs.lemmas.Option.{same_Some, slice_get-get_or, slice_get_within, get_or_from_slice_get}
use Rattle.disp_model.specs.declared.plan.Event.{Event}
use Rattle.disp_model.specs.declared.train.Operation.{Operation}
use Rattle.disp_model.specs.declared.problem.Problem.{Problem}
use Rattle.disp_model.specs.Train.{IsEntry, next_of}
use Rattle.disp_model.specs.Valid.{operation_of}
use Rattle.solution_verifier.specs.Rules.{Rule, rank, KeepsRule}
use Rattle.solution_verifier.specs.Judged.{IsLast, fault_of, IsFaultOf}
use Rattle.solution_verifier.proofs.Ranks.{KeptBelow}
use Rattle.solution_verifier.proofs.Ends.{none_ends}

pub broken_at : (problem : Problem) (stood : List Event) (e : Event) (rule : Rule) → KeptBelow (KeepsRule problem stood e) (rank rule) → (KeepsRule problem stood e rule → ⊥) → IsFaultOf problem stood e (fault_of rule (length stood))
broken_at problem stood e rule below broken = (rule, refl, record { broken = broken; earlier = below })

-- a test that fails refutes what it tells
pub refuted : (b : Bool) (P : Type 0) → (IsTrue b ↔ P) → b ≡ false → P → ⊥
refuted b P tells fails p = false≢true (sym fails ∙ tells.1 p)

successor_at : (train : List Operation) (o q : ℕ) (found : Option Operation) → slice_get train q ≡ found → Contains (next_of train q) o → (p : Operation) × (slice_get train q ≡ Some p) × Contains p.next o
successor_at train o q None at h = absurd (let within = (rw at at h).1 in omega (arith, within))
successor_at train o q (Some p) at h = (p, at, rw at at h)

entry_unreached : (train : List Operation) (o : ℕ) → o < length train → (Any (λ p. Contains p.next o) train → ⊥) → IsEntry train o
entry_unreached train o there unreached = record {
  there = there;
  first = λ q h.
      let found = successor_at train o q (slice_get train q) refl h in
      unreached (q, found.0, slice_get_within train q found.0 found.1, get_or_from_slice_get train q found.0 found.0 found.1, found.2);
}

unreached_entry : (train : List Operation) (o : ℕ) → IsEntry train o → Any (λ p. Contains p.next o) train → ⊥
unreached_entry train o entry (q, p, within, at, goes) =
    let there : slice_get train q ≡ Some p = subst (λ (x : Operation). slice_get train q ≡ Some x) at (slice_get-get_or train q p within) in
    entry.first q (rw there goes)

pub entry_kept : (train : List Operation) (o : ℕ) (run : List Event) (before : Option Event) → IsLast run before → o < length train
    → MatchOption before (Any (λ p. Contains p.next o) train → ⊥) (λ _. Unit {0}) → run ≡ [] → IsEntry train o
entry_kept train o run None last there h none = entry_unreached train o there h
entry_kept train o run (Some d) last there h none = absurd (none_ends run d none last)

pub entry_broken : (train : List Operation) (o : ℕ) (run : List Event) (before : Option Event) → IsLast run before
    → (run ≡ [] → IsEntry train o) → MatchOption before (Any (λ p. Contains p.next o) train → ⊥) (λ _. Unit {0})
entry_broken train o run None none h = unreached_entry train o (h none)
entry_broken train o run (Some d) last h = tt

-- what holds of the operation of an event holds of each that it names
pub of_operation : (P : Operation → Type 0) (problem : Problem) (e : Event) (o : Operation) → operation_of problem e ≡ Some o → P o → (p : Operation) → operation_of problem e ≡ Some p → P p
of_operation P problem e o at h p there = subst P (same_Some o p (sym at ∙ there)) h
