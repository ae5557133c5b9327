-- The document after more events, and that it never was past its limit.
use Rattle.std.proofs.Common.{◌≡◌, ℕ, ◌≤◌, ◌⊎◌, List, [], ◌∷◌, ◌++◌, map, sym, refl, ap, ◌∙◌, subst, inl, inr, ⊎_elim, append-nil, append_assoc}
use Rattle.message.specs.Presence.{Entry}
use Rattle.document.specs.Kind.{Kind}
use Rattle.law.specs.Events.{Event, came, update_in, updates, all_joined, document_of}

module _ {X : Type 0} where
  -- where two lists, one after the other, are cut: in the first, or in the second
  pub cut_in_two : (xs ys before after : List X) → xs ++ ys ≡ before ++ after
      → ((more : List X) × (xs ≡ before ++ more)) ⊎ ((more : List X) × (before ≡ xs ++ more) × (ys ≡ more ++ after))
  cut_in_two [] ys before after is = inr (before, refl, is)
  cut_in_two (x ∷ xs) ys [] after is = inl (x ∷ xs, refl)
  cut_in_two (x ∷ xs) ys (b ∷ before) after is =
      let head : x ≡ b = cc in
      let tail : xs ++ ys ≡ before ++ after = cc in
      by head (cut_in_two xs ys before after tail)
    where
      by : x ≡ b → ((more : List X) × (xs ≡ before ++ more)) ⊎ ((more : List X) × (before ≡ xs ++ more) × (ys ≡ more ++ after))
          → ((more : List X) × (x ∷ xs ≡ b ∷ (before ++ more))) ⊎ ((more : List X) × (b ∷ before ≡ x ∷ (xs ++ more)) × (ys ≡ more ++ after))
      by head (inl (more, is)) = inl (more, (cc))
      by head (inr (more, front, back)) = inr (more, (cc), back)

module _ (k : Kind) where
  updates_append : (ds es : List Event) → updates k (ds ++ es) ≡ updates k ds ++ updates k es
  updates_append [] es = refl
  updates_append (d ∷ ds) es = ap (λ l. update_in k d ++ l) (updates_append ds es) ∙ sym (append_assoc (update_in k d) (updates k ds) (updates k es))

  joined_append : (d : k.Document) (us vs : List k.Document) → all_joined k d (us ++ vs) ≡ all_joined k (all_joined k d us) vs
  joined_append d [] vs = refl
  joined_append d (u ∷ us) vs = joined_append (k.join d u) us vs

  pub document_append : (ds es : List Event) → document_of k (ds ++ es) ≡ all_joined k (document_of k ds) (updates k es)
  document_append ds es = ap (all_joined k k.empty) (updates_append ds es) ∙ joined_append k.empty (updates k ds) (updates k es)

  -- entries bring no update
  pub entries_bring_none : (now : ℕ) (es : List Entry) → updates k (map (came now) es) ≡ []
  entries_bring_none now [] = refl
  entries_bring_none now (e ∷ es) = entries_bring_none now es

  -- the front of a row that brings no update brings none
  pub front_brings_none : (before after : List Event) → updates k (before ++ after) ≡ [] → updates k before ≡ []
  front_brings_none before after is = none (updates k before) (updates k after) (sym (updates_append before after) ∙ is) where
    none : (us vs : List k.Document) → us ++ vs ≡ [] → us ≡ []
    none [] vs is = refl
    none (u ∷ us) vs is = cc

  pub same_document : (ds es : List Event) → updates k es ≡ [] → document_of k (ds ++ es) ≡ document_of k ds
  same_document ds es none = document_append ds es ∙ ap (all_joined k (document_of k ds)) none

  module _ (limit : ℕ) where
    -- it never was past the limit
    abbrev pub Never : List Event → Type 0
    Never ds = (before after : List Event) → ds ≡ before ++ after → k.size (document_of k before) ≤ limit

    pub never_more : (ds es : List Event) → Never ds → ((before after : List Event) → es ≡ before ++ after → k.size (document_of k (ds ++ before)) ≤ limit) → Never (ds ++ es)
    never_more ds es was then before after is =
        ⊎_elim
        (λ (p : (more : List Event) × (ds ≡ before ++ more)). was before p.0 p.1)
        (λ (p : (more : List Event) × (before ≡ ds ++ more) × (es ≡ more ++ after)). subst (λ b. k.size (document_of k b) ≤ limit) (sym p.1) (then p.0 after p.2))
        (cut_in_two ds es before after is)

    pub never_same : (ds es : List Event) → Never ds → updates k es ≡ [] → Never (ds ++ es)
    never_same ds es was none =
        never_more ds es was (λ before after is. subst (λ d. k.size d ≤ limit) (sym (same_document ds before (front_brings_none before after (ap (updates k) (sym is) ∙ none)))) (was ds [] (sym (append-nil ds))))

    -- one update more that fits
    pub never_joined : (ds : List Event) (d : Event) → Never ds → k.size (document_of k (ds ++ d ∷ [])) ≤ limit → Never (ds ++ d ∷ [])
    never_joined ds d was fits = never_more ds (d ∷ []) was (λ before after is. one before after is) where
      one : (before after : List Event) → d ∷ [] ≡ before ++ after → k.size (document_of k (ds ++ before)) ≤ limit
      one [] after is = subst (λ l. k.size (document_of k l) ≤ limit) (sym (append-nil ds)) (was ds [] (sym (append-nil ds)))
      one (x ∷ []) after is = let same : d ≡ x = cc in subst (λ y. k.size (document_of k (ds ++ y ∷ [])) ≤ limit) same fits
      one (x ∷ y ∷ before) after is = let z : ◌≡◌ {A = List Event} [] (y ∷ (before ++ after)) = cc in cc
