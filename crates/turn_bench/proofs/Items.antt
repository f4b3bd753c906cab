-- The items of one caller among the first entries of a log.
use Rattle.std.proofs.Common.{◌≡◌, ◌≢◌, ℕ, suc, ◌+◌, ◌<◌, ◌≤◌, Bool, true, false, cond, eqb, eq-eqb, List, [], ◌∷◌, ◌++◌, length, take, get_or, ap, ◌∙◌, ⊎_elim, arith, refl, subst}
use mathlib.Core.List.{append-nil}
use Rattle.std.proofs.lemmas.Bool.Decides.{eqb_tells}
use Rattle.std.proofs.lemmas.List.{take_more}
use Rattle.std.proofs.lemmas.List.Elements.{filter-append}
use Rattle.mc_turn.specs.Callers.{Makes, of_caller}
use Rattle.mc_turn.specs.Passes.{Known, Seen}
use Rattle.mc_turn.specs.Laws.{has_only, makes_more}
use Rattle.mc_turn.specs.Workers.{Grew, GrewAs}
use Rattle.turn_bench.specs.declared.entry.Entry.{Entry}
use Rattle.turn_bench.specs.Work.{IsFrom, added, caller_of, entry, numbered}

-- an item more is the caller's own
pub adds_grew : (done : Bool) (n item : ℕ) (old new : List Entry) → new ≡ old ++ added done n item → Grew caller_of n old new
adds_grew true n item old new e = record { more = added true n item; grows = e; are = (refl, tt); such = (tt, tt) }
adds_grew false n item old new e = record { more = []; grows = e; are = tt; such = tt }

-- and one of these items is such an entry
pub adds_from : (done : Bool) (first last n item : ℕ) (old new : List Entry) → new ≡ old ++ added done n item → first ≤ item → item < last → GrewAs caller_of (IsFrom first last) n old new
adds_from true first last n item old new e low high = record { more = added true n item; grows = e; are = (refl, tt); such = ((low, high), tt) }
adds_from false first last n item old new e low high = record { more = []; grows = e; are = tt; such = tt }

-- a turn more, in which the next item was added
pub makes_item : (n item : ℕ) (done : Bool) (xs : List Entry) (mid : Known Entry) (old new ys : List Entry) → done ≡ true → Makes caller_of n (numbered n item) xs mid.seen → mid.numbers ≡ n ∷ [] → Seen caller_of mid old
    → new ≡ old ++ added done n item → ys ≡ new → Makes caller_of n (numbered n (item + 1)) xs ys
makes_item n item done xs mid old new ys was made only seen e is = let next : suc item ≡ item + 1 = omega arith in
    subst (λ (k : ℕ). Makes caller_of n (numbered n k) xs ys) next
    (makes_more caller_of n (numbered n item) (entry n item ∷ []) xs mid.seen old ys made (seen.own n (has_only mid.numbers n only)) (is ∙ (e ∙ ap (λ (b : Bool). old ++ added b n item) was)) (refl, tt))

-- one entry more is looked at: it is the caller's next item, or another caller's
own_more : (xs : List Entry) (i n : ℕ) → i < length xs → of_caller caller_of n (take (i + 1) xs) ≡ of_caller caller_of n (take i xs) ++ of_caller caller_of n (get_or xs i (entry 0 0) ∷ [])
own_more xs i n lt = ap (of_caller caller_of n) (take_more xs i (entry 0 0) lt) ∙ filter-append (λ (x : Entry). eqb x.caller n) (take i xs) (get_or xs i (entry 0 0) ∷ [])

pub next_item : (xs : List Entry) (i n k : ℕ) → i < length xs → of_caller caller_of n (take i xs) ≡ numbered n k → (get_or xs i (entry 0 0)).caller ≡ n → (get_or xs i (entry 0 0)).item ≡ k
    → of_caller caller_of n (take (i + 1) xs) ≡ numbered n (k + 1)
next_item xs i n k lt so_far e f = let next : suc k ≡ k + 1 = omega arith in
    own_more xs i n lt ∙ (ap (λ (b : Bool). of_caller caller_of n (take i xs) ++ cond b (get_or xs i (entry 0 0) ∷ []) []) (eq-eqb (get_or xs i (entry 0 0)).caller n e)
    ∙ (ap (λ (x : Entry). of_caller caller_of n (take i xs) ++ x ∷ []) (λ j. entry (e j) (f j)) ∙ (ap (λ (l : List Entry). l ++ entry n k ∷ []) so_far ∙ ap (numbered n) next)))

differs : (a b : ℕ) → a ≢ b → eqb a b ≡ false
differs a b ne = ⊎_elim (λ (t : (eqb a b ≡ true) × (a ≡ b)). absurd (ne t.1)) (λ (t : (eqb a b ≡ false) × (a ≢ b)). t.0) (eqb_tells a b)

pub others_item : (xs : List Entry) (i n : ℕ) (own : List Entry) → i < length xs → of_caller caller_of n (take i xs) ≡ own → (get_or xs i (entry 0 0)).caller ≢ n → of_caller caller_of n (take (i + 1) xs) ≡ own
others_item xs i n own lt so_far ne = own_more xs i n lt
    ∙ (ap (λ (b : Bool). of_caller caller_of n (take i xs) ++ cond b (get_or xs i (entry 0 0) ∷ []) []) (differs (get_or xs i (entry 0 0)).caller n ne) ∙ (append-nil (of_caller caller_of n (take i xs)) ∙ so_far))
