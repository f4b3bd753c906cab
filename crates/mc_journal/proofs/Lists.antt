-- What holds of each element of a list, and what a test keeps.
use Rattle.std.proofs.Common.{◌≡◌, ◌<◌, Bool, List, [], ◌∷◌, Option, Some, None, inl, inr, ◌⊎◌, refl}
use Rattle.std.specs.List.{filter, AllByRecursion}
use Rattle.std.proofs.lemmas.Bool.{cases_Bool}
use Rattle.mc_packet.specs.declared.packet.Packet.{Packet}
use Rattle.mc_packet.specs.Choices.{or_else}
use Rattle.mc_journal.specs.Films.{at, IsRising}

pub all_to : {X : Type 0} (P Q : X → Type 0) → ((x : X) → P x → Q x) → (xs : List X) → AllByRecursion P xs → AllByRecursion Q xs
all_to P Q f [] h = h
all_to P Q f (x ∷ xs) h = (f x h.0, all_to P Q f xs h.1)

pub all_kept : {X : Type 0} (P : X → Type 0) (test : X → Bool) (xs : List X) → AllByRecursion P xs → AllByRecursion P (filter test xs)
all_kept P test [] h = h
all_kept P test (x ∷ xs) h =
    let e = all_kept P test xs h.1 in
    elim (cases_Bool (test x)) [ inl y ↦ rw y (h.0, e) | inr n ↦ rw n e ]

-- places go on rising in what a test keeps
pub rising_kept : (test : Packet → Bool) (ps : List Packet) → IsRising ps → IsRising (filter test ps)
rising_kept test [] h = h
rising_kept test (p ∷ ps) h =
    let e = rising_kept test ps h.1 in
    elim (cases_Bool (test p)) [ inl y ↦ rw y (all_kept (λ q. at p < at q) test ps h.0, e) | inr n ↦ rw n e ]

pub or_else-cases : {A : Type 0} (o other : Option A) (x : A) → or_else o other ≡ Some x → (o ≡ Some x) ⊎ ((o ≡ None) × (other ≡ Some x))
or_else-cases None other x h = inr (refl, h)
or_else-cases (Some y) other x h = inl h

pub or_else-some : {A : Type 0} (o : Option A) (x : A) → or_else o (Some x) ≡ None → ⊥
or_else-some None x h = cc
or_else-some (Some y) x h = cc
