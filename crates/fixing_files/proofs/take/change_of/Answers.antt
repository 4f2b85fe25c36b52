use Rattle.std.proofs.Common.{◌≡◌, ◌⊎◌, inl, inr, refl}
use Rattle.disp_model.specs.declared.fixing.Change.{Change}
use Rattle.fixing_lines.specs.declared.request.Request.{Request}
use Rattle.fixing_lines.specs.declared.request.Request.TheVariants.{Ask, Show, Unreadable}
use Rattle.fixing_files.proofs.take.change_of.Goals as goal

pub returns-in-Ask : goal.returns-in-Ask
returns-in-Ask c = (c.in-Ask.ensures.exact (Ask c.in-Ask.change)).0 refl

asks_nothing : (request : Request) (change : Change) → (request ≡ Show) ⊎ (request ≡ Unreadable) → request ≡ Ask change → ⊥
asks_nothing request change (inl is) e = cc
asks_nothing request change (inr is) e = cc

pub returns-in-Show : goal.returns-in-Show
returns-in-Show c change asked = asks_nothing c.read_request.result change c.in-Show.is ((c.read_request.ensures.exact (Ask change)).1 asked)
