-- What is counted in a journal, record by record.
use Rattle.std.proofs.Common.{◌≡◌, ℕ, ◌+◌, ◌<◌, List, [], ◌∷◌, ◌++◌, length, map, take, get_or, refl, sym, ap, ◌∙◌, arith, ℤ}
use Rattle.std.specs.Prelude.{pos, sum_by}
use Rattle.std.specs.Int.{int_max}
use Rattle.std.specs.List.{fold}
use Rattle.std.proofs.lemmas.Grind.{flat_map-append}
use Rattle.std.proofs.lemmas.List.{append-nil, map-append, take_more}
use Rattle.std.proofs.lemmas.List.Sums.{sum_by_push}
use Rattle.mc_gen.specs.Summary.{last_of}
use Rattle.mc_journal.specs.declared.record.DemuxRecord.{DemuxRecord}
use Rattle.mc_journal.specs.declared.record.DemuxRecord.TheVariants.{Opened, Sought, Switched, Found, Fed, Failed, Starved, Dropped, Joined, Gave, Ended, Overfull, Faulted, Wanting, Shown, Refused}
use Rattle.mc_journal.specs.Told.{Told}
use Rattle.mc_play.specs.Summing.{all_given, counted, sums_in, sums_told, sums_with, told_of}

pub none_counted : record { packets = 0; octets = 0; last = pos 0 } ≡ sums_in []
unfolding sums_in
none_counted = refl

fold_push : (a : ℤ) (xs : List ℤ) (x : ℤ) → fold int_max a (xs ++ x ∷ []) ≡ int_max (fold int_max a xs) x
fold_push a [] x = refl
fold_push a (y ∷ ys) x = fold_push (int_max a y) ys x

count_push : (ts : List Told) (t : Told) → length (ts ++ t ∷ []) ≡ length ts + 1
count_push [] t = refl
count_push (u ∷ us) t = omega (arith, count_push us t)

told_push : (ts : List Told) (t : Told)
    → record { packets = counted ((sums_told ts).packets + 1); octets = counted ((sums_told ts).octets + t.len); last = int_max (sums_told ts).last t.time } ≡ sums_told (ts ++ t ∷ [])
told_push ts t =
    let count : counted (counted (length ts) + 1) ≡ counted (length (ts ++ t ∷ [])) = omega (arith, count_push ts t) in
    let octets : counted (counted (sum_by (λ (t : Told). t.len) ts) + t.len) ≡ counted (sum_by (λ (t : Told). t.len) (ts ++ t ∷ [])) = omega (arith, sum_by_push (λ (t : Told). t.len) ts t) in
    let last : int_max (last_of (map (λ (t : Told). t.time) ts)) t.time ≡ last_of (map (λ (t : Told). t.time) (ts ++ t ∷ []))
    = sym (fold_push (pos 0) (map (λ (t : Told). t.time) ts) t.time) ∙ ap last_of (sym (map-append (λ (t : Told). t.time) ts (t ∷ []))) in
    rw (count, octets, last) refl

none_told : (ts : List Told) → sums_told ts ≡ sums_told (ts ++ [])
none_told ts = ap sums_told (sym (append-nil ts))

told_with : (ts : List Told) (r : DemuxRecord) → sums_with (sums_told ts) r ≡ sums_told (ts ++ told_of r)
told_with ts (Gave by track place time len sum sync key) = told_push ts (record { track = track; pos = place; time = time; len = len; sum = sum; sync = sync; key = key })
told_with ts (Opened by set) = none_told ts
told_with ts (Sought by set t dir how) = none_told ts
told_with ts (Switched by set added t) = none_told ts
told_with ts (Found by starts) = none_told ts
told_with ts (Fed by from to took ending) = none_told ts
told_with ts (Failed by before after) = none_told ts
told_with ts (Starved by) = none_told ts
told_with ts (Dropped by removal) = none_told ts
told_with ts (Joined by) = none_told ts
told_with ts (Ended by track ending) = none_told ts
told_with ts (Overfull by track forward max) = none_told ts
told_with ts (Faulted by track before after) = none_told ts
told_with ts (Wanting by track) = none_told ts
told_with ts (Shown by view) = none_told ts
told_with ts (Refused by why) = none_told ts

given_push : (hs : List DemuxRecord) (r : DemuxRecord) → all_given (hs ++ r ∷ []) ≡ all_given hs ++ told_of r
given_push hs r = flat_map-append told_of hs (r ∷ []) ∙ ap (λ (x : List Told). all_given hs ++ x) (append-nil (told_of r))

pub one_more : (hd : List DemuxRecord) (i : ℕ) (r : DemuxRecord) → i < length hd → r ≡ get_or hd i r → sums_with (sums_in (take i hd)) r ≡ sums_in (take (i + 1) hd)
unfolding sums_in
one_more hd i r lt is =
    let parts : take (i + 1) hd ≡ take i hd ++ r ∷ [] = take_more hd i r lt ∙ ap (λ (q : DemuxRecord). take i hd ++ q ∷ []) (sym is) in
    told_with (all_given (take i hd)) r ∙ ap sums_told (sym (given_push (take i hd) r)) ∙ ap (λ (hs : List DemuxRecord). sums_told (all_given hs)) (sym parts)
