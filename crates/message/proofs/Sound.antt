-- Why the parts of a message can be read again.
use Rattle.std.proofs.Common.{◌≡◌, ℕ, cond, eqb, ltb, List, [], ◌∷◌, Some, None, Ok, Err, Option, Result, refl, subst}
use Rattle.std.proofs.lemmas.Bool.{cond_both}
use Rattle.std.proofs.lemmas.List.Elements.{All-cons, All-head, All-tail}
use Rattle.std.specs.List.{All}
use Rattle.std.specs.Result.{result_and}
use Rattle.encoding.specs.declared.fault.WireFault.{WireFault}
use Rattle.encoding.specs.Fields.{presence_text}
use Rattle.encoding.specs.Utf8.{is_text}
use Rattle.state_vector.specs.Tables.{always, better, entered, full, updated}
use Rattle.message.specs.Owned.{judged, owned_state, state_text}

-- a state that can be kept says a text that can be read
pub state_passes : (s : Option (List ℕ)) → judged s ≡ Ok tt → presence_text (state_text s) ≡ Ok tt
unfolding is_text
state_passes None h = refl
state_passes (Some bs) h = h

-- what is kept has passed
kept_passes : {X : Type 0} (v : Result (Unit {0}) WireFault) (x y : X) → Ok y ≡ result_and v (Ok x) → (v ≡ Ok tt) × (x ≡ y)
kept_passes (Ok tt) x y e = (refl, (cc))
kept_passes (Err f) x y e = cc

-- so a state that was kept says a text that can be read
pub owned_passes : (s t : Option (List ℕ)) → Ok t ≡ owned_state s → presence_text (state_text t) ≡ Ok tt
owned_passes s t e = let k = kept_passes (judged s) s t e in subst (λ x. presence_text (state_text x) ≡ Ok tt) k.1 (state_passes s k.0)

-- a fact of each entry stays where an entry comes in of which it holds
module _ {E : Type 0} (key : E → ℕ) (P : E → Type 0) where
  pub All-entered : (xs : List E) (e : E) → P e → All P xs → All P (entered key always xs e)
  All-entered [] e r h = All-cons P e [] r h
  All-entered (x ∷ xs) e r h =
      cond_both (ltb (key x) (key e)) (x ∷ entered key always xs e) (cond (eqb (key x) (key e)) (better always e x ∷ xs) (e ∷ x ∷ xs)) (All P)
      (λ _. All-cons P x (entered key always xs e) (All-head P x xs h) (All-entered xs e r (All-tail P x xs h)))
      (λ _. cond_both (eqb (key x) (key e)) (better always e x ∷ xs) (e ∷ x ∷ xs) (All P) (λ _. All-cons P e xs r (All-tail P x xs h)) (λ _. All-cons P e (x ∷ xs) r h))

  pub All-updated : (cap : ℕ) (xs : List E) (e : E) → P e → All P xs → All P (updated key cap xs e)
  All-updated cap xs e r h = cond_both (full key cap xs e) xs (entered key always xs e) (All P) (λ _. h) (λ _. All-entered xs e r h)
