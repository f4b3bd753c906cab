-- What is said of a machine on the film that it stands for.
use Rattle.std.specs.Prelude.{◌≡◌, ℕ, List, Option, Some}
use Rattle.mc_outside.specs.Shelf.{Files, Opened, content_of}
use Rattle.mc_journal.specs.Drives.{Readings}
use Rattle.mc_lines.specs.Calls.{Fixed}

-- a fact on the octets and readings for which it stands
abbrev pub OnStand : {M : Type 0} → (M → List ℕ → Readings → Type 0) → M → (List ℕ → Readings → Type 0) → Type 0
OnStand stands m fact = (octets : List ℕ) (rd : Readings) → stands m octets rd → fact octets rd

-- it goes on standing for them
abbrev pub StaysOn : {M : Type 0} → (M → List ℕ → Readings → Type 0) → M → M → Type 0
StaysOn stands old new = OnStand stands old (λ octets rd. stands new octets rd)

-- the same where the shelf tells these octets of the machine's file
abbrev pub OnShelf : {S M : Type 0} → (S → Option Files) → (S → Opened) → S → (M → Fixed) → (M → List ℕ → Readings → Type 0) → M
    → (List ℕ → Readings → Type 0) → Type 0
OnShelf files opened shelf fixed stands m fact =
    (octets : List ℕ) (rd : Readings) → content_of files opened shelf (fixed m).file ≡ Some octets → stands m octets rd → fact octets rd

abbrev pub StaysTold : {S M : Type 0} → (S → Option Files) → (S → Opened) → S → (M → Fixed) → (M → List ℕ → Readings → Type 0) → M → M → Type 0
StaysTold files opened shelf fixed stands old new = OnShelf files opened shelf fixed stands old (λ octets rd. stands new octets rd)
