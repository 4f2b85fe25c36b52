-- Where the first space stands, and what stands before and behind it.
use Rattle.std.proofs.Common.{◌≡◌, ℕ, suc, ◌+◌, ◌<◌, List, [], ◌∷◌, ◌++◌, length, get_or, take, drop, refl, sym, ap, subst, ◌∙◌, arith, add-one, drop-cons, append_assoc, length-append}
use Rattle.std.specs.Prelude.{codes}
use Rattle.std.specs.Fmt.{decimal}
use Rattle.std.proofs.lemmas.Fmt.{decimal_injective}
use Rattle.std.proofs.lemmas.List.{take-append-drop}
use Rattle.std.proofs.lemmas.List.Elements.{All-tail}
use Rattle.std.proofs.Math.Seq.{get_or-append_seam}
use Rattle.fixing_lines.specs.declared.fields.Fields.{Fields}
use Rattle.fixing_lines.specs.Requests.{IsField, LeadsWith, HasFields, HasNoSpace}
use Rattle.fixing_lines.proofs.Numbers.{no_space_in_number}

-- two texts before a space are one where neither has a space
cut : (a x b y : List ℕ) → HasNoSpace a → HasNoSpace b → a ++ (32 ∷ x) ≡ b ++ (32 ∷ y) → (a ≡ b) × (x ≡ y)
cut [] x [] y here there same = (refl, ap (drop 1) same)
cut [] x (c ∷ b) y here there same = absurd (there 0 0 (omega arith) (sym (ap (λ (l : List ℕ). get_or l 0 0) same)))
cut (c ∷ a) x [] y here there same = absurd (here 0 0 (omega arith) (ap (λ (l : List ℕ). get_or l 0 0) same))
cut (c ∷ a) x (d ∷ b) y here there same =
    let rest : (a ≡ b) × (x ≡ y) = cut a x b y (All-tail (λ (byte : ℕ). byte ≡ 32 → ⊥) c a here) (All-tail (λ (byte : ℕ). byte ≡ 32 → ⊥) d b there) (ap (drop 1) same) in
    let head : c ≡ d = ap (λ (l : List ℕ). get_or l 0 0) same in
    (ap (λ (e : ℕ). e ∷ a) head ∙ ap (λ (l : List ℕ). d ∷ l) rest.0, rest.1)

-- the bytes stand round a space
splits : (bytes : List ℕ) (k : ℕ) → k < length bytes → get_or bytes k 0 ≡ 32 → bytes ≡ take k bytes ++ (32 ∷ drop (k + 1) bytes)
splits bytes k within is =
    let behind : drop k bytes ≡ 32 ∷ drop (k + 1) bytes = rw (add-one, drop-cons bytes k 0) (ap (λ (c : ℕ). c ∷ drop (suc k) bytes) is) in
    sym (take-append-drop k bytes) ∙ ap (λ (l : List ℕ). take k bytes ++ l) behind

-- where there is no space no number leads
pub no_space_no_lead : (bytes : List ℕ) → HasNoSpace bytes → (n : ℕ) (rest : List ℕ) → LeadsWith bytes n rest → ⊥
no_space_no_lead bytes none n rest leads =
    let all : HasNoSpace (decimal n ++ (32 ∷ rest)) = subst HasNoSpace leads.text none in
    let long : length (decimal n ++ (32 ∷ rest)) ≡ length (decimal n) + length (32 ∷ rest) = length-append (decimal n) (32 ∷ rest) in
    all (length (decimal n)) 0 (omega (arith, long)) (get_or-append_seam (decimal n) 32 rest 0)

-- where the bytes before the first space are no number none leads
pub no_field_no_lead : (bytes : List ℕ) (k : ℕ) → k < length bytes → get_or bytes k 0 ≡ 32 → HasNoSpace (take k bytes) → ((n : ℕ) → IsField (take k bytes) n → ⊥)
    → (n : ℕ) (rest : List ℕ) → LeadsWith bytes n rest → ⊥
no_field_no_lead bytes k within is none other n rest leads =
    other n (record {
      within = leads.within;
      text = (cut (take k bytes) (drop (k + 1) bytes) (decimal n) rest none (no_space_in_number n leads.within) (sym (splits bytes k within is) ∙ leads.text)).0;
    })

-- one number leads, before one rest
same_lead : (bytes : List ℕ) (m n : ℕ) (x y : List ℕ) → LeadsWith bytes m x → LeadsWith bytes n y → (m ≡ n) × (x ≡ y)
same_lead bytes m n x y one other =
    let both : (decimal m ≡ decimal n) × (x ≡ y) = cut (decimal m) x (decimal n) y (no_space_in_number m one.within) (no_space_in_number n other.within) (sym one.text ∙ other.text) in
    (decimal_injective m n one.within other.within both.0, both.1)

-- the first of three fields leads
first_leads : (bytes : List ℕ) (fields : Fields) → HasFields [] bytes fields → LeadsWith bytes fields.at_train (decimal fields.at_op ++ (codes " " ++ decimal fields.last))
first_leads bytes fields has = record {
  within = has.within.first;
  text = has.text ∙ simp append_assoc;
}

-- behind the first number none leads: there are no three fields
pub no_second : (bytes others : List ℕ) (t : ℕ) → LeadsWith bytes t others → ((n : ℕ) (rest : List ℕ) → LeadsWith others n rest → ⊥) → (fields : Fields) → HasFields [] bytes fields → ⊥
no_second bytes others t leads other fields has =
    let same : others ≡ decimal fields.at_op ++ (codes " " ++ decimal fields.last) = (same_lead bytes t fields.at_train others _ leads (first_leads bytes fields has)).1 in
    other fields.at_op (decimal fields.last) (record { within = has.within.second; text = same })

-- behind the second number stands none: there are no three fields
pub no_third : (bytes others last : List ℕ) (t o : ℕ) → LeadsWith bytes t others → LeadsWith others o last → ((n : ℕ) → IsField last n → ⊥) → (fields : Fields) → HasFields [] bytes fields → ⊥
no_third bytes others last t o leads next other fields has =
    let same : others ≡ decimal fields.at_op ++ (codes " " ++ decimal fields.last) = (same_lead bytes t fields.at_train others _ leads (first_leads bytes fields has)).1 in
    let second : LeadsWith others fields.at_op (decimal fields.last) = record { within = has.within.second; text = same } in
    other fields.last (record { within = has.within.third; text = (same_lead others o fields.at_op last (decimal fields.last) next second).1 })

-- three fields are those of one triple
pub same_fields : (bytes : List ℕ) (a b : Fields) → HasFields [] bytes a → HasFields [] bytes b → (a.at_train ≡ b.at_train) × (a.at_op ≡ b.at_op) × (a.last ≡ b.last)
same_fields bytes a b one other =
    let first = same_lead bytes a.at_train b.at_train _ _ (first_leads bytes a one) (first_leads bytes b other) in
    let next : LeadsWith (decimal a.at_op ++ (codes " " ++ decimal a.last)) b.at_op (decimal b.last) = record { within = other.within.second; text = first.1 } in
    let here : LeadsWith (decimal a.at_op ++ (codes " " ++ decimal a.last)) a.at_op (decimal a.last) = record { within = one.within.second; text = refl } in
    let second = same_lead _ a.at_op b.at_op (decimal a.last) (decimal b.last) here next in
    (first.0, second.0, decimal_injective a.last b.last one.within.third other.within.third second.1)
