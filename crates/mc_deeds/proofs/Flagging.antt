-- Flags, one client after the other.
use Rattle.std.proofs.Common.{◌≡◌, ◌≢◌, ℕ, ◌==◌, inl, inr, ◌⊎◌, true, false, List, [], ◌∷◌, ◌++◌, map, Option, Some, None, refl, sym, ap, subst, ◌∙◌}
use Rattle.std.specs.Prelude.{IfSome, All}
use Rattle.std.specs.Option.{option_map}
use Rattle.std.specs.List.{list_any}
use Rattle.std.proofs.lemmas.Bool.{cases_Bool, eqb-true, eqb-false, or_cases}
use Rattle.slab.specs.Slab.{Slab, get}
use Rattle.mc_dispatch.specs.declared.request.ClientNo.{ClientNo}
use Rattle.mc_props.specs.Fields.{AgreeOutside}
use Rattle.mc_props.specs.declared.entries.PropEntry.{PropEntry}
use Rattle.mc_props.specs.declared.facts.Facts.{Facts}
use Rattle.mc_props.specs.declared.reading.Reading.{Reading}
use Rattle.mc_client.specs.Client.{ClientState, after_flag}
use Rattle.mc_client.specs.Watches.{Fresh, IsPlaced, flagged_for}
use Rattle.mc_client.specs.declared.watch.Watch.{Watch}
use Rattle.mc_client.specs.Seen.{Seen, seen_of}
use Rattle.mc_player.specs.Laws.{has_number}
use Rattle.mc_player.specs.Lives.{life}
use Rattle.mc_deeds.specs.Flags.{AllFresh, AreFlagged, IsFlaggedAt}

flagged_seen : (entries : List PropEntry) (mask : ℕ) (ws : List Watch) → map seen_of (map (flagged_for entries mask) ws) ≡ map seen_of ws
flagged_seen entries mask [] = refl
flagged_seen entries mask (w ∷ ws) = ap (λ (xs : List Seen). seen_of w ∷ xs) (flagged_seen entries mask ws)

pub same_life : (entries : List PropEntry) (mask : ℕ) (k : ClientState) → life (after_flag k entries mask) ≡ life k
same_life entries mask k = ap (λ (xs : List Seen). record { name = k.name; ring = k.ring; seen = xs; off = k.off }) (flagged_seen entries mask k.watches)

pub agree_self : (mask : ℕ) (f : Facts) → AgreeOutside mask f f
agree_self mask f = record { pause = λ _. refl; mute = λ _. refl; path = λ _. refl; tracks = λ _. refl; loaded = λ _. refl; set = λ _. refl; cache = λ _. refl }

pub flagged_none : (value : ℕ → Facts → Reading) (entries : List PropEntry) (f : Facts) (mask : ℕ) (cs : Slab ClientState) → AllFresh value entries f cs → AreFlagged value entries f mask [] cs cs
flagged_none value entries f mask cs all = record {
  lives = λ c. refl;
  either = λ g agree c. with_left (get cs c) (λ (k : ClientState). Fresh value entries f k.watches) (λ (k : ClientState). Fresh value entries g k.watches) (all c);
  fresh = λ g agree c e. absurd (cc);
}
  where
    with_left : (o : Option ClientState) (P Q : ClientState → Type 0) → IfSome o P → IfSome o (λ k. P k ⊎ Q k)
    with_left None P Q h = tt
    with_left (Some k) P Q h = inl h

-- facts that agree on all fields are the same
same_facts : (f g : Facts) → AgreeOutside 0 f g → f ≡ g
same_facts f g agree =
    ap (λ x. record f { pause = x }) (agree.pause refl)
    ∙ ap (λ x. record f { pause = g.pause; mute = x }) (agree.mute refl)
    ∙ ap (λ x. record f { pause = g.pause; mute = g.mute; path = x }) (agree.path refl)
    ∙ ap (λ x. record f { pause = g.pause; mute = g.mute; path = g.path; tracks = x }) (agree.tracks refl)
    ∙ ap (λ x. record g { set = f.set; cache = f.cache; loaded = x }) (agree.loaded refl)
    ∙ ap (λ x. record g { cache = f.cache; set = x }) (agree.set refl)
    ∙ ap (λ x. record g { cache = x }) (agree.cache refl)

-- with no field in the mask, all stay fresh as they stand
pub flagged_same : (value : ℕ → Facts → Reading) (entries : List PropEntry) (f : Facts) (mask : ℕ) (order : List ClientNo) (cs : Slab ClientState)
    → mask ≡ 0 → AllFresh value entries f cs → AreFlagged value entries f mask order cs cs
flagged_same value entries f mask order cs none all =
    let so = flagged_none value entries f mask cs all in
    record {
      lives = so.lives;
      either = so.either;
      fresh = λ g agree c e. subst (λ (y : Facts). IfSome (get cs c) (λ k. Fresh value entries y k.watches))
          (same_facts f g (subst (λ (m : ℕ). AgreeOutside m f g) none agree)) (all c);
    }

-- what one flag does
pub record FlagsHere (value : ℕ → Facts → Reading) (entries : List PropEntry) (mask : ℕ) (cs cs' : Slab ClientState) (at : ℕ) : Type 0 where
  pub here : (k : ClientState) → get cs at ≡ Some k → IsFlaggedAt value entries mask k (get cs' at)
  pub none : get cs at ≡ None → get cs' at ≡ None
  pub others : (other : ℕ) → other ≢ at → get cs' other ≡ get cs other

pub flagged_more : (value : ℕ → Facts → Reading) (entries : List PropEntry) (f : Facts) (mask : ℕ) (order : List ClientNo) (d : ClientNo) (old cs cs' : Slab ClientState)
    → AreFlagged value entries f mask order old cs → FlagsHere value entries mask cs cs' d.0 → AreFlagged value entries f mask (order ++ d ∷ []) old cs'
flagged_more value entries f mask order d old cs cs' so step = record {
  lives = λ c. elim (cases_Bool (c == d.0)) [
    | inl y ↦ let e : c ≡ d.0 = eqb-true c d.0 y in subst (λ (x : ℕ). option_map life (get cs' x) ≡ option_map life (get old x)) (sym e) (life_here (get cs d.0) refl ∙ so.lives d.0)
    | inr n ↦ ap (option_map life) (step.others c (eqb-false c d.0 n)) ∙ so.lives c
  ];
  either = λ g agree c. elim (cases_Bool (c == d.0)) [
    | inl y ↦ let e : c ≡ d.0 = eqb-true c d.0 y in
        subst (λ (x : ℕ). IfSome (get cs' x) (λ k. Fresh value entries f k.watches ⊎ Fresh value entries g k.watches)) (sym e) (right_of (get cs' d.0) _ _ (fresh_here g agree (get cs d.0) refl))
    | inr n ↦ subst (λ (o : Option ClientState). IfSome o (λ k. Fresh value entries f k.watches ⊎ Fresh value entries g k.watches)) (sym (step.others c (eqb-false c d.0 n))) (so.either g agree c)
  ];
  fresh = λ g agree c e. elim (cases_Bool (c == d.0)) [
    | inl y ↦ let s : c ≡ d.0 = eqb-true c d.0 y in subst (λ (x : ℕ). IfSome (get cs' x) (λ k. Fresh value entries g k.watches)) (sym s) (fresh_here g agree (get cs d.0) refl)
    | inr n ↦ subst (λ (o : Option ClientState). IfSome o (λ k. Fresh value entries g k.watches)) (sym (step.others c (eqb-false c d.0 n)))
        (so.fresh g agree c (in_front order c e (λ s. eqb-false c d.0 n (sym (eqb-true d.0 c s)))))
  ];
}
  where
    right_of : (o : Option ClientState) (P Q : ClientState → Type 0) → IfSome o Q → IfSome o (λ k. P k ⊎ Q k)
    right_of None P Q h = tt
    right_of (Some k) P Q h = inr h

    life_here : (o : Option ClientState) → get cs d.0 ≡ o → option_map life (get cs' d.0) ≡ option_map life (get cs d.0)
    life_here None is = ap (option_map life) (step.none is ∙ sym is)
    life_here (Some k) is =
        let h = step.here k is in
        ap (option_map life) h.stands ∙ ap (λ (x : ClientState). Some (life x)) h.after ∙ ap (λ l. Some l) (same_life entries mask k) ∙ sym (ap (option_map life) is)

    fresh_here : (g : Facts) → AgreeOutside mask f g → (o : Option ClientState) → get cs d.0 ≡ o → IfSome (get cs' d.0) (λ k. Fresh value entries g k.watches)
    fresh_here g agree None is = subst (λ (o : Option ClientState). IfSome o (λ k. Fresh value entries g k.watches)) (sym (step.none is)) tt
    fresh_here g agree (Some k) is =
        let h = step.here k is in
        let was : Fresh value entries f k.watches ⊎ Fresh value entries g k.watches =
        subst (λ (o : Option ClientState). IfSome o (λ x. Fresh value entries f x.watches ⊎ Fresh value entries g x.watches)) is (so.either g agree d.0) in
        subst (λ (o : Option ClientState). IfSome o (λ x. Fresh value entries g x.watches)) (sym h.stands)
        (elim was [ inl a ↦ h.fresh f g agree a | inr b ↦ h.fresh g g (agree_self mask g) b ])

    in_front : (xs : List ClientNo) (c : ℕ) → list_any (has_number c) (xs ++ d ∷ []) ≡ true → ((d.0 == c) ≡ true → ⊥) → list_any (has_number c) xs ≡ true
    in_front [] c e differs = elim (or_cases (d.0 == c) false e) [ inl y ↦ absurd (differs y) | inr n ↦ n ]
    in_front (x ∷ xs) c e differs = elim (cases_Bool (x.0 == c)) [
      | inl y ↦ rw y refl
      | inr n ↦ let r = rw n at e in rw n (in_front xs c r differs)
    ]

pub placed_for : (value : ℕ → Facts → Reading) (entries : List PropEntry) (f : Facts) (mask : ℕ) (order : List ClientNo) (old cs : Slab ClientState) (c : ℕ)
    → AreFlagged value entries f mask order old cs → IfSome (get cs c) (λ k. All (IsPlaced entries) k.watches)
placed_for value entries f mask order old cs c so = of (get cs c) (so.either f (agree_self mask f) c)
  where
    of : (o : Option ClientState) → IfSome o (λ k. Fresh value entries f k.watches ⊎ Fresh value entries f k.watches) → IfSome o (λ k. All (IsPlaced entries) k.watches)
    of None h = tt
    of (Some k) h = elim h [ inl a ↦ a.placed | inr b ↦ b.placed ]
