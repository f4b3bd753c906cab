-- What a line leaves differs from what was before it in the line's fields alone.
use Rattle.std.proofs.Common.{◌≡◌, ◌∙◌, ℕ, ◌+◌, ◌-◌, ◌^◌, min, Bool, true, false, cond, List, [], ◌∷◌, ◌++◌, Option, Some, None, Result, Ok, Err, refl, ap, sym, subst}
use Rattle.std.specs.Prelude.{nat_lt, nat_le}
use Rattle.mc_props.specs.Entries.{place_of}
use Rattle.mc_props.specs.declared.entries.PropEntry.{PropEntry}
use Rattle.mc_playlist.specs.Fields.{AgreeOutside, act_fields, step_fields}
use Rattle.mc_playlist.specs.Records.{Leaves, acted, first_played, watching}
use Rattle.mc_playlist.specs.Steps.{Steps, cleared, count, kept_place, next_place, place_before, placed, played, removed, reordered, stepped, with_names}
use Rattle.mc_playlist.specs.declared.acts.ListAct.{ListAct}
use Rattle.mc_playlist.specs.declared.acts.ListAct.TheVariants.{Step, Play, PlayAll, Watch}
use Rattle.mc_playlist.specs.declared.facts.ListFacts.{ListFacts}
use Rattle.mc_playlist.specs.declared.steps.ListStep.{ListStep}
use Rattle.mc_playlist.specs.declared.steps.ListStep.TheVariants.{Add, Remove, Move, Clear, Next, Prev, Jump, Played}
use Rattle.mc_playlist.specs.declared.steps.ListError.{ListError}
use Rattle.mc_playlist.specs.declared.steps.ListError.TheVariants as errors

inner : (f g : ListFacts) → ◌≡◌ {A = Result ListFacts ListError} (Ok f) (Ok g) → f ≡ g
inner f g e = cc

same : (mask : ℕ) (f g : ListFacts) → g ≡ f → AgreeOutside mask f g
same mask f g e = record { names = λ h. ap (λ (x : ListFacts). x.names) (sym e); pos = λ h. ap (λ (x : ListFacts). x.pos) (sym e); plays = λ h. ap (λ (x : ListFacts). x.plays) (sym e) }

-- names and the place alone are other ones
renamed : (f : ListFacts) (names : List (List ℕ)) (pos : Option ℕ) → AgreeOutside 3 f (with_names f names pos)
renamed f names pos = record { names = λ h. cc; pos = λ h. cc; plays = λ h. refl }

added : (f : ListFacts) (names : List (List ℕ)) → AgreeOutside 1 f (with_names f names f.pos)
added f names = record { names = λ h. cc; pos = λ h. refl; plays = λ h. refl }

moved_to : (f : ListFacts) (pos : Option ℕ) → AgreeOutside 2 f (with_names f f.names pos)
moved_to f pos = record { names = λ h. refl; pos = λ h. cc; plays = λ h. refl }

of_test : (mask : ℕ) (b : Bool) (f x f' : ListFacts) (e : ListError) → AgreeOutside mask f x → cond b (Ok x) (Err e) ≡ Ok f' → AgreeOutside mask f f'
of_test mask true f x f' e agree is = subst (AgreeOutside mask f) (inner x f' is) agree
of_test mask false f x f' e agree is = absurd (cc)

of_move : (i j : ℕ) (f f' : ListFacts) (a b : Bool)
    → cond a (cond b (Ok (reordered i j f)) (Err (errors.NoEntry j (count f)))) (Err (errors.NoEntry i (count f))) ≡ Ok f' → AgreeOutside 3 f f'
of_move i j f f' true b e = of_test 3 b f (reordered i j f) f' (errors.NoEntry j (count f)) (renamed f (reordered i j f).names (reordered i j f).pos) e
of_move i j f f' false b e = absurd (cc)

of_placed : (o : Option ℕ) (wanted : ℕ) (f f' : ListFacts) → placed o wanted f ≡ Ok f' → AgreeOutside 2 f f'
of_placed None wanted f f' e = absurd (cc)
of_placed (Some p) wanted f f' e = subst (AgreeOutside 2 f) (inner (with_names f f.names (Some p)) f' e) (moved_to f (Some p))

of_cleared : (o : Option ℕ) (f : ListFacts) → AgreeOutside 3 f (cleared o f)
of_cleared None f = renamed f [] None
of_cleared (Some p) f = renamed f (cleared (Some p) f).names (Some 0)

of_played : (o : Option ℕ) (f f' : ListFacts) → played o f ≡ Ok f' → AgreeOutside 6 f f'
of_played None f f' e = absurd (cc)
of_played (Some p) f f' e =
    let after : ListFacts = record { names = f.names; pos = kept_place (count f) (p + 1); plays = min (f.plays + 1) (2 ^ 32 - 1) } in
    subst (AgreeOutside 6 f) (inner after f' e) (record { names = λ h. refl; pos = λ h. cc; plays = λ h. cc })

pub stepped_agrees : (step : ListStep) (f f' : ListFacts) → stepped step f ≡ Ok f' → AgreeOutside (step_fields step) f f'
stepped_agrees (Add name) f f' e = of_test 1 (nat_lt (count f) 10000) f (with_names f (f.names ++ name ∷ []) f.pos) f' errors.TooMany (added f (f.names ++ name ∷ [])) e
stepped_agrees (Remove i) f f' e = of_test 3 (nat_lt i (count f)) f (removed i f) f' (errors.NoEntry i (count f)) (renamed f (removed i f).names (removed i f).pos) e
stepped_agrees (Move i j) f f' e = of_move i j f f' (nat_lt i (count f)) (nat_le j (count f)) e
stepped_agrees Clear f f' e = subst (AgreeOutside 3 f) (inner (cleared f.pos f) f' e) (of_cleared f.pos f)
stepped_agrees Next f f' e = of_placed (kept_place (count f) (next_place f.pos)) (next_place f.pos) f f' e
stepped_agrees Prev f f' e = of_placed (place_before f.pos) 0 f f' e
stepped_agrees (Jump i) f f' e = of_placed (kept_place (count f) i) i f f' e
stepped_agrees Played f f' e = of_played f.pos f f' e

watch_agrees : (o : Option ℕ) (f f' : ListFacts) → watching o f ≡ Ok f' → AgreeOutside 0 f f'
watch_agrees None f f' e = absurd (cc)
watch_agrees (Some k) f f' e = same 0 f f' (sym (inner f f' e))

acted_agrees : (entries : List PropEntry) (act : ListAct) (f f' : ListFacts) → acted entries act f ≡ Ok f' → AgreeOutside (act_fields act) f f'
acted_agrees entries (Step step) f f' e = stepped_agrees step f f' e
acted_agrees entries Play f f' e = of_played f.pos f f' e
acted_agrees entries PlayAll f f' e = of_played (first_played f) f f' e
acted_agrees entries (Watch name) f f' e = watch_agrees (place_of name entries) f f' e

-- a call's answer is right, and so its list differs in the line's fields alone
pub leaves_agrees : (entries : List PropEntry) (act : ListAct) (f f' : ListFacts) (answer : Result (Unit {0}) ListError) → Leaves (acted entries act f) f f' answer
    → AgreeOutside (act_fields act) f f'
leaves_agrees entries act f f' (Ok done) h = acted_agrees entries act f f' h
leaves_agrees entries act f f' (Err errors.NotFound) h = same (act_fields act) f f' h.1
leaves_agrees entries act f f' (Err (errors.NoEntry i n)) h = same (act_fields act) f f' h.1
leaves_agrees entries act f f' (Err errors.TooMany) h = same (act_fields act) f f' h.1
leaves_agrees entries act f f' (Err errors.TooLong) h = same (act_fields act) f f' h.1
leaves_agrees entries act f f' (Err errors.NotUtf8) h = same (act_fields act) f f' h.1
leaves_agrees entries act f f' (Err (errors.BadLine n)) h = same (act_fields act) f f' h.1
leaves_agrees entries act f f' (Err errors.NoMemory) h = same (act_fields act) f f' h

-- a step's answer is so one of a line
pub steps_leave : (step : ListStep) (f f' : ListFacts) (answer : Result (Unit {0}) ListError) → Steps step f f' answer → Leaves (stepped step f) f f' answer
steps_leave step f f' (Ok done) h = h
steps_leave step f f' (Err errors.NotFound) h = h
steps_leave step f f' (Err (errors.NoEntry i n)) h = h
steps_leave step f f' (Err errors.TooMany) h = h
steps_leave step f f' (Err errors.TooLong) h = h
steps_leave step f f' (Err errors.NotUtf8) h = h
steps_leave step f f' (Err (errors.BadLine n)) h = h
steps_leave step f f' (Err errors.NoMemory) h = h.1

pub steps_agree : (step : ListStep) (f f' : ListFacts) (answer : Result (Unit {0}) ListError) → Steps step f f' answer → AgreeOutside (step_fields step) f f'
steps_agree step f f' answer h = leaves_agrees [] (Step step) f f' answer (steps_leave step f f' answer h)
