-- What is written has no float.
use Rattle.std.proofs.Common.{◌≡◌, ◌||◌, ℕ, ℤ, pos, negsuc, Bool, true, false, List, [], ◌∷◌, map, Option, Some, None, Ordering, Less, Equal, Greater, refl, ap, sym, subst, ◌∙◌, nat_cmp, inl, inr, codes}
use Rattle.std.specs.List.{AllByRecursion}
use Rattle.std.specs.Ordering.{match_ordering, int_eq}
use Rattle.std.specs.Cmp.Lexicographic.{slice_cmp}
use Rattle.std.proofs.lemmas.Bool.{cases_Bool, or_parts}
use Rattle.serde_json.specs.Data.{Data, number, object, string, unsigned, Members, no_members, member, put}
use Rattle.serde_json.specs.Find.{is_float, of_integer}
use Rattle.serde_json.specs.View.{items_of}
use Rattle.serde_json.specs.Written.{has_float, items_have_float, members_have_float}
use Rattle.mc_value.specs.declared.value.Format.{Format}
use Rattle.mc_value.specs.declared.value.Format.TheVariants as format
use Rattle.mc_value.specs.declared.value.Value.{Value}
use Rattle.mc_value.specs.declared.value.Value.TheFolds.{fold-roll-Value, ind-Value, map-Value}
use Rattle.mc_value.specs.declared.value.Value.TheOpen.{Value-F}
use Rattle.mc_value.specs.declared.value.Value.TheViews.{roll-Value}
use Rattle.mc_ring.specs.declared.event.Event.{Event}
use Rattle.mc_ring.specs.declared.event.Event.TheVariants as event
use Rattle.mc_ipc.specs.Written.{change_data, data_of, data_step, event_data, event_of, event_word, error_word, object_of, put_all, reply_data, reply_of}

-- ---- objects

put_at : (o : Ordering) (k l : List ℕ) (d e : Data) (ms : Members) → has_float d ≡ false → has_float e ≡ false → members_have_float ms ≡ false
    → members_have_float (put k d ms) ≡ false → members_have_float (match_ordering o (member k d (member l e ms)) (member l d ms) (member l e (put k d ms))) ≡ false
put_at Less k l d e ms a b c r = rw (a, b, c) refl
put_at Equal k l d e ms a b c r = rw (a, c) refl
put_at Greater k l d e ms a b c r = rw (b, r) refl

put_plain : (k : List ℕ) (d : Data) (ms : Members) → has_float d ≡ false → members_have_float ms ≡ false → members_have_float (put k d ms) ≡ false
put_plain k d no_members a h = rw a refl
put_plain k d (member l e ms) a h =
    let parts = or_parts (has_float e) (members_have_float ms) h in
    put_at (slice_cmp nat_cmp k l) k l d e ms a parts.0 parts.1 (put_plain k d ms a parts.1)

abbrev AllPlain : List (List ℕ × Data) → Type 0
AllPlain ps = AllByRecursion (λ p. has_float p.1 ≡ false) ps

put_all_plain : (ps : List (List ℕ × Data)) (ms : Members) → AllPlain ps → members_have_float ms ≡ false → members_have_float (put_all ps ms) ≡ false
put_all_plain [] ms a h = h
put_all_plain (p ∷ ps) ms a h = put_all_plain ps (put p.0 p.1 ms) a.1 (put_plain p.0 p.1 ms a.0 h)

object_plain : (ps : List (List ℕ × Data)) → AllPlain ps → has_float (object_of ps) ≡ false
object_plain ps a = put_all_plain ps no_members a refl

-- ---- values

abbrev IsPlain : Value → Type 0
IsPlain v = has_float (data_of v) ≡ false

-- a value whose JSON is known to have none
abbrev Known : Type 0
Known = (v : Value) × IsPlain v

items_plain : (ts : List Known) → items_have_float (items_of (map data_of (map (λ (t : Known). t.0) ts))) ≡ false
items_plain [] = refl
items_plain (t ∷ ts) = rw (t.1, items_plain ts) refl

pairs_plain : (ts : List (List ℕ × Known)) → AllPlain (map (λ (p : List ℕ × Value). (p.0, data_of p.1)) (map (λ (t : List ℕ × Known). (t.0, t.1.0)) ts))
pairs_plain [] = tt
pairs_plain (t ∷ ts) = (t.1.1, pairs_plain ts)

number_plain : (n : ℤ) → is_float (of_integer n) ≡ false
number_plain (pos n) = refl
number_plain (negsuc n) = refl

level_plain : (y : Value-F Known) → has_float (data_step (map-Value Value Data data_of (map-Value Known Value (λ k. k.0) y))) ≡ false
level_plain Value-F.None = refl
level_plain (Value-F.Str s) = refl
level_plain (Value-F.Flag b) = refl
level_plain (Value-F.Int n) = number_plain n
level_plain (Value-F.Array ts) = items_plain ts
level_plain (Value-F.Map ts) = object_plain (map (λ (p : List ℕ × Value). (p.0, data_of p.1)) (map (λ (t : List ℕ × Known). (t.0, t.1.0)) ts)) (pairs_plain ts)

pub value_plain : (v : Value) → has_float (data_of v) ≡ false
value_plain = ind-Value IsPlain (λ x y is.
    let one : data_of (roll-Value x) ≡ data_step (map-Value Value Data data_of x) = fold-roll-Value Data data_step x in
    let level : has_float (data_step (map-Value Value Data data_of x)) ≡ false = subst (λ z. has_float (data_step (map-Value Value Data data_of z)) ≡ false) is (level_plain y) in
    ap has_float one ∙ level)

-- ---- lines

reply_data_plain : (e : ℤ) (v : Option Value) → AllPlain (reply_data e v)
reply_data_plain e None = tt
reply_data_plain e (Some v) = elim (cases_Bool (int_eq e (pos 0))) [ inl y ↦ rw y (value_plain v, tt) | inr n ↦ rw n tt ]

pub reply_plain : (id : ℕ) (e : ℤ) (v : Option Value) → has_float (reply_of id e v) ≡ false
reply_plain id e v = object_plain ((codes "error", string (error_word e)) ∷ (codes "request_id", number (unsigned id)) ∷ reply_data e v) (refl, (refl, reply_data_plain e v))

words_plain : (ws : List (List ℕ)) → items_have_float (items_of (map string ws)) ≡ false
words_plain [] = refl
words_plain (w ∷ ws) = words_plain ws

change_plain : (f : Format) (v : Value) → AllPlain (change_data f v)
change_plain format.None v = tt
change_plain format.String v = (value_plain v, tt)
change_plain format.Flag v = (value_plain v, tt)
change_plain format.Int64 v = (value_plain v, tt)
change_plain format.Node v = (value_plain v, tt)

event_data_plain : (e : Event) → AllPlain (event_data e)
event_data_plain (event.EndFile reason) = (refl, tt)
event_data_plain (event.Message words) = (words_plain words, tt)
event_data_plain (event.Change id name f v) = (refl, (refl, change_plain f v))
event_data_plain event.None = tt
event_data_plain event.Shutdown = tt
event_data_plain (event.GetReply id e v) = tt
event_data_plain (event.SetReply id e) = tt
event_data_plain (event.CommandReply id e) = tt
event_data_plain event.StartFile = tt
event_data_plain event.FileLoaded = tt
event_data_plain event.Seek = tt
event_data_plain event.PlaybackRestart = tt
event_data_plain event.Overflow = tt

pub event_plain : (e : Event) → has_float (event_of e) ≡ false
event_plain e = object_plain ((codes "event", string (event_word e)) ∷ event_data e) (refl, event_data_plain e)
