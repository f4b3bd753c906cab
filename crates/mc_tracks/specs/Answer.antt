-- What a call answers, beside the value of a definition.
use Rattle.std.specs.Prelude.{◌≡◌, Result, Ok, Err}
use Rattle.mc_tracks.specs.declared.refused.Refused.{Refused}
use Rattle.mc_tracks.specs.declared.refused.TracksError.{TracksError}
use Rattle.mc_tracks.specs.declared.refused.TracksError.TheVariants as failures

abbrev pub Fails : {Y : Type 0} → TracksError → Result Y Refused → Type 0
Fails failures.NoMemory value = Unit {0}
Fails (failures.Refused r) value = value ≡ Err r

-- the answer, seen by a view, is the value, unless memory ran out
abbrev pub Gives : {X Y : Type 0} → (X → Y) → Result X TracksError → Result Y Refused → Type 0
Gives view (Ok x) value = value ≡ Ok (view x)
Gives view (Err e) value = Fails e value

-- a call that takes no memory answers the value, its refusals as this crate's error
abbrev pub answer : {X : Type 0} → Result X Refused → Result X TracksError
answer (Ok x) = Ok x
answer (Err r) = Err (failures.Refused r)

infixl 10 ◌>>=◌
abbrev pub ◌>>=◌ : {A B : Type 0} → Result A Refused → (A → Result B Refused) → Result B Refused
(Ok x) >>= f = f x
(Err e) >>= f = Err e
