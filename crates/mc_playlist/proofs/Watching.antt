-- What is told by masks is what computing every value anew gives.
use Rattle.std.proofs.Common.{◌≡◌, ◌↔◌, ℕ, ◌+◌, ◌<◌, ◌≤◌, Bool, true, false, not, ◌||◌, cond, List, [], ◌∷◌, ◌++◌, length, get_or, map, filter, Option, Some, None, refl, ap, sym, subst, ◌∙◌, arith, length-append}
use Rattle.std.proofs.Math.ListN.{set}
use Rattle.std.specs.Prelude.{All, IfSome, IsTrue, is_some, slice_index_or}
use Rattle.std.specs.List.{list_any}
use Rattle.std.proofs.lemmas.Bool.{or_parts}
use Rattle.std.proofs.lemmas.List.Elements.{All-cons, All-head, All-map, All-nil, All-tail}
use Rattle.std.proofs.lemmas.List.Quantifiers.{position-Some}
use Rattle.mc_value.proofs.Same.{exact}
use Rattle.mc_value.specs.Sameness.{same_value}
use Rattle.mc_value.specs.declared.value.Value.{Value}
use Rattle.mc_props.specs.Entries.{has_name, place_of}
use Rattle.mc_props.specs.Fields.{share_field}
use Rattle.mc_props.specs.Readings.{mask_at}
use Rattle.mc_props.specs.declared.entries.PropEntry.{PropEntry}
use Rattle.mc_props.specs.declared.reading.Reading.{Reading}
use Rattle.mc_props.specs.declared.reading.Reading.TheVariants.{Is, Unavailable}
use Rattle.mc_playlist.specs.Fields.{AgreeOutside}
use Rattle.mc_playlist.specs.Table.{Masked, Stated}
use Rattle.mc_playlist.specs.Watches.{AnswersIfDue, Current, CurrentBut, IsGiven, IsPlaced, IsSure, change_to, changes_of, given, is_due, is_settled, news_of, noted, now, same_reading, told, was_given, with_given}
use Rattle.mc_playlist.specs.declared.facts.ListFacts.{ListFacts}
use Rattle.mc_playlist.specs.declared.watched.Change.{Change}
use Rattle.mc_playlist.specs.declared.watched.Watched.{Watched}
use Rattle.mc_playlist.proofs.Masks.{spared}

-- ---- the test of sameness is exact

same_self : (r s : Reading) → r ≡ s → same_reading r s ≡ true
same_self (Is v) (Is w) e = (exact v w).1 (inner v w e)
  where
    inner : (v w : Value) → Is v ≡ Is w → v ≡ w
    inner v w e = cc
same_self (Is v) Unavailable e = absurd (cc)
same_self Unavailable (Is w) e = absurd (cc)
same_self Unavailable Unavailable e = refl

is_same : (r s : Reading) → same_reading r s ≡ true → r ≡ s
is_same (Is v) (Is w) e = ap (λ (x : Value). Is x) ((exact v w).0 e)
is_same (Is v) Unavailable e = absurd (cc)
is_same Unavailable (Is w) e = absurd (cc)
is_same Unavailable Unavailable e = refl

-- ---- a settled property was given what it shows

given_is : (o : Option Reading) (r : Reading) → was_given o r ≡ true → o ≡ Some r
given_is None r e = absurd (cc)
given_is (Some last) r e = ap (λ (x : Reading). Some x) (is_same last r e)

settled_is : (stated : Stated) (f : ListFacts) (w : Watched) → is_settled stated f w ≡ true → told stated f w ≡ w
settled_is stated f w e =
    ap (λ (o : Option Reading). let x : Watched = record { name = w.name; place = w.place; given = o } in x) (sym (given_is w.given (now stated f w) e))

-- ---- where it is not due, it is settled

no_entry : PropEntry
no_entry = record { name = []; mask = 0; writable = false }

not_due : (o : Option Reading) (shares : Bool) (r : Reading) → (not (is_some o) || shares) ≡ false
    → IfSome o (λ x. x ≡ r) → (was_given o r ≡ true) × (shares ≡ false)
not_due None shares r e given = absurd (cc)
not_due (Some last) shares r e given = (same_self last r given, e)

given_now : (o : Option Reading) (r s : Reading) → r ≡ s → IfSome o (λ x. x ≡ r) → IfSome o (λ x. x ≡ s)
given_now None r s e given = given
given_now (Some last) r s e given = given ∙ e

sure : (stated : Stated) (entries : List PropEntry) → Masked stated entries → (mask : ℕ) (f g : ListFacts) → AgreeOutside mask g f
    → (w : Watched) → IsPlaced entries w → IsGiven stated g w → IsSure stated entries mask f w
sure stated entries masked mask f g outside w placed given due =
    let shares = share_field (mask_at entries (Some w.place)) mask in
    let apart : shares ≡ false = (or_parts (not (is_some w.given)) shares due).1 in
    let found = position-Some (has_name w.name) entries w.place no_entry (sym placed) in
    let same : stated w.place g ≡ stated w.place f = spared stated entries masked w.place found.0 mask apart g f outside in
    (not_due w.given shares (now stated f w) due (given_now w.given (now stated g w) (now stated f w) same given)).0

pub all_sure : (stated : Stated) (entries : List PropEntry) → Masked stated entries → (mask : ℕ) (f : ListFacts) (ws : List Watched)
    → CurrentBut stated entries mask f ws → All (IsSure stated entries mask f) ws
all_sure stated entries masked mask f ws (g, outside, current) = λ k d within.
    sure stated entries masked mask f g outside (slice_index_or ws k d) (current.placed k d within) (current.given k d within)

-- ---- what a table's reader answers for

may_read : (answers : ℕ → Type 0) (entries : List PropEntry) → ((place : ℕ) → place < length entries → answers place) → (mask : ℕ)
    → (w : Watched) → IsPlaced entries w → AnswersIfDue answers entries mask w
may_read answers entries all mask w placed due =
    let found = position-Some (has_name w.name) entries w.place no_entry (sym placed) in
    all w.place found.0

pub all_may_read : (answers : ℕ → Type 0) (entries : List PropEntry) → ((place : ℕ) → place < length entries → answers place) → (mask : ℕ)
    → (ws : List Watched) → All (IsPlaced entries) ws → All (AnswersIfDue answers entries mask) ws
all_may_read answers entries all mask ws placed = λ k d within.
    may_read answers entries all mask (slice_index_or ws k d) (placed k d within)

-- ---- after a note

news_given : (stated : Stated) (f : ListFacts) (w : Watched) (b : Bool) → is_settled stated f w ≡ b
    → given w (cond b None (Some (now stated f w))) ≡ told stated f w
news_given stated f w true e = sym (settled_is stated f w e)
news_given stated f w false e = refl

pub noted_is : (stated : Stated) (f : ListFacts) (ws : List Watched) → noted (map (news_of stated f) ws) ws ≡ map (told stated f) ws
noted_is stated f [] = refl
noted_is stated f (w ∷ ws) =
    ap (λ (x : Watched). x ∷ noted (map (news_of stated f) ws) ws) (news_given stated f w (is_settled stated f w) refl)
    ∙ ap (λ (xs : List Watched). told stated f w ∷ xs) (noted_is stated f ws)

pub current_told : (stated : Stated) (entries : List PropEntry) (f : ListFacts) (ws : List Watched) → All (IsPlaced entries) ws
    → Current stated entries f (map (told stated f) ws)
current_told stated entries f ws placed = record {
  placed = All-map (IsPlaced entries) (told stated f) ws placed;
  given = All-map (IsGiven stated f) (told stated f) ws (λ k d within. refl);
}

-- ---- where nothing is due

pub record IsQuiet (stated : Stated) (f : ListFacts) (ws : List Watched) : Type 0 where
  pub none : [] ≡ changes_of stated f ws
  pub same : ws ≡ map (told stated f) ws

quiet_one : (stated : Stated) (f : ListFacts) (w : Watched) (ws : List Watched) → is_settled stated f w ≡ true → IsQuiet stated f ws → IsQuiet stated f (w ∷ ws)
quiet_one stated f w ws e q = record {
  none = q.none ∙ rw e refl;
  same = ap (λ (x : Watched). x ∷ ws) (sym (settled_is stated f w e)) ∙ ap (λ (xs : List Watched). told stated f w ∷ xs) q.same;
}

pub quiet : (stated : Stated) (entries : List PropEntry) (mask : ℕ) (f : ListFacts) (ws : List Watched) → All (IsSure stated entries mask f) ws
    → list_any (is_due entries mask) ws ≡ false → IsQuiet stated f ws
quiet stated entries mask f [] all none = record { none = refl; same = refl }
quiet stated entries mask f (w ∷ ws) all none =
    let parts = or_parts (is_due entries mask w) (list_any (is_due entries mask) ws) none in
    quiet_one stated f w ws (All-head (IsSure stated entries mask f) w ws all parts.0)
    (quiet stated entries mask f ws (All-tail (IsSure stated entries mask f) w ws all) parts.1)

pub none_due : (entries : List PropEntry) (mask : ℕ) (ws : List Watched) → All (λ w. is_due entries mask w ≡ false) ws
    → list_any (is_due entries mask) ws ≡ false
none_due entries mask [] all = refl
none_due entries mask (w ∷ ws) all =
    let first : is_due entries mask w ≡ false = All-head (λ w. is_due entries mask w ≡ false) w ws all in
    rw first (none_due entries mask ws (All-tail (λ w. is_due entries mask w ≡ false) w ws all))

-- ---- news that are noted from the last to the first

abbrev pub given_at : List Watched → ℕ → Option Reading → Watched → List Watched
given_at ws k r d = set ws k (given (get_or ws k d) r)

pub noted_last : (rs : List (Option Reading)) (r : Option Reading) (ws : List Watched) (d : Watched) → length rs < length ws
    → noted (rs ++ r ∷ []) ws ≡ noted rs (given_at ws (length rs) r d)
noted_last [] r [] d lt = absurd (omega arith)
noted_last [] r (w ∷ ws) d lt = refl
noted_last (q ∷ qs) r [] d lt = absurd (omega arith)
noted_last (q ∷ qs) r (w ∷ ws) d lt = ap (λ (xs : List Watched). given w q ∷ xs) (noted_last qs r ws d (omega arith))

-- one more is noted, before those that were
pub noted_more : (rs rs' : List (Option Reading)) (r : Option Reading) (ws goal : List Watched) (d : Watched) → rs ≡ rs' ++ r ∷ []
    → length rs ≤ length ws → noted rs ws ≡ goal → noted rs' (given_at ws (length rs') r d) ≡ goal
noted_more rs rs' r ws goal d is within e =
    let more : length rs ≡ length rs' + 1 = ap length is ∙ length-append rs' (r ∷ []) in
    sym (noted_last rs' r ws d (omega arith)) ∙ sym (ap (λ (xs : List (Option Reading)). noted xs ws) is) ∙ e

pub apart_at : (b : Bool) → b ≡ false → b ≡ true → ⊥
apart_at b e h = cc
