-- The JSON of a map, and of the elements of lists.
use Rattle.std.proofs.Common.{◌≡◌, ◌++◌, ◌∷◌, [], List, ℕ, map, take, drop, length, get_or, zero, suc, ◌+◌, ◌<◌, ◌≤◌, arith, Option, Some, None, option_map, refl, ap, sym, subst, ◌∙◌, append_assoc, append-nil, drop_of_length-le}
use Rattle.std.specs.Option.{option_and_then}
use Rattle.std.proofs.lemmas.List.{drop_more, take_more, map-append}
use Rattle.serde_json.specs.Data.{Data, Items, Members, put}
use Rattle.serde_json.specs.View.{items_of, items_view, view}
use Rattle.serde_json.specs.declared.value.Value.{Value as Json}
use Rattle.mc_value.specs.declared.value.Value.{Value, fold-roll-Value}
use Rattle.mc_value.specs.declared.value.Value.TheViews.{Map, Array}
use Rattle.mc_value.specs.declared.value.Value.TheVariants.{rolls-Map}
use Rattle.mc_value.specs.declared.value.Value.TheOpen.{Value-F}
use Rattle.mc_ipc.specs.Asked.{listed, word_in, words_in}
use Rattle.mc_ipc.specs.Written.{data_of, data_step, object_of, put_all}

pub data_of_map : (pairs : List (List ℕ × Value)) → data_of (Map pairs) ≡ object_of (map (λ p. (p.0, data_of p.1)) pairs)
data_of_map pairs = ap data_of (sym (rolls-Map pairs)) ∙ fold-roll-Value Data data_step (Value-F.Map pairs)

-- the elements of an array are those of its list
pub listed_items : (ds : List Data) → listed (items_of ds) ≡ ds
listed_items [] = refl
listed_items (d ∷ ds) = ap (λ xs. d ∷ xs) (listed_items ds)

pub listed_view : (vs : List Json) → listed (items_view vs) ≡ map view vs
listed_view vs = listed_items (map view vs)

-- one pair more
pub put_all_push : (ps : List (List ℕ × Data)) (p : List ℕ × Data) (ms : Members) → put_all (ps ++ p ∷ []) ms ≡ put p.0 p.1 (put_all ps ms)
put_all_push [] p ms = refl
put_all_push (q ∷ ps) p ms = put_all_push ps p (put q.0 q.1 ms)

-- ---- the words of a command, one after another

-- what was read of the words, and what is left of them
abbrev pub rest_of_words : List (List ℕ) → List Data → Option (List (List ℕ))
rest_of_words ws ds = option_map (λ vs. ws ++ vs) (words_in ds)

behind : (ws : List (List ℕ)) (w : List ℕ) (o : Option (List (List ℕ))) → option_map (λ vs. ws ++ vs) (option_map (λ vs. w ∷ vs) o) ≡ option_map (λ vs. (ws ++ w ∷ []) ++ vs) o
behind ws w None = refl
behind ws w (Some vs) = ap (λ x. Some x) (sym (append_assoc ws (w ∷ []) vs))

pub words_begin : (ds : List Data) → rest_of_words [] ds ≡ words_in ds
words_begin ds = same (words_in ds)
  where
    same : (o : Option (List (List ℕ))) → option_map (λ vs. [] ++ vs) o ≡ o
    same None = refl
    same (Some vs) = refl

pub words_step : (ws : List (List ℕ)) (w : List ℕ) (d : Data) (ds : List Data) → word_in d ≡ Some w → rest_of_words ws (d ∷ ds) ≡ rest_of_words (ws ++ w ∷ []) ds
words_step ws w d ds e = rw e (behind ws w (words_in ds))

pub words_fail : (ws : List (List ℕ)) (d : Data) (ds : List Data) → word_in d ≡ None → rest_of_words ws (d ∷ ds) ≡ None
words_fail ws d ds e = rw e refl

next : (args : List Json) (i : ℕ) (a : Json) → i < length args → a ≡ get_or args i a → map view (drop i args) ≡ view a ∷ map view (drop (i + 1) args)
next args i a l e = ap (map view) (drop_more args i a l) ∙ ap (λ x. view x ∷ map view (drop (i + 1) args)) (sym e)

pub words_next : (ws : List (List ℕ)) (args : List Json) (i : ℕ) (a : Json) (w : List ℕ) → i < length args → a ≡ get_or args i a → Some w ≡ word_in (view a)
    → rest_of_words (ws ++ w ∷ []) (map view (drop (i + 1) args)) ≡ rest_of_words ws (map view (drop i args))
words_next ws args i a w l e is = sym (ap (rest_of_words ws) (next args i a l e) ∙ words_step ws w (view a) (map view (drop (i + 1) args)) (sym is))

pub words_stop : (ws : List (List ℕ)) (args : List Json) (i : ℕ) (a : Json) → i < length args → a ≡ get_or args i a → None ≡ word_in (view a)
    → None ≡ rest_of_words ws (map view (drop i args))
words_stop ws args i a l e is = sym (ap (rest_of_words ws) (next args i a l e) ∙ words_fail ws (view a) (map view (drop (i + 1) args)) (sym is))

pub words_end : (ws : List (List ℕ)) (args : List Json) (i : ℕ) → length args ≤ i → Some ws ≡ rest_of_words ws (map view (drop i args))
words_end ws args i l = rw (drop_of_length-le args l) (ap (λ x. Some x) (sym (append-nil ws)))

-- ---- the members of a map, one after another

abbrev pub with_data : List ℕ × Value → List ℕ × Data
with_data p = (p.0, data_of p.1)

pub members_next : (pairs : List (List ℕ × Value)) (i : ℕ) (p : List ℕ × Value) (ms : Members) → i < length pairs → p ≡ get_or pairs i p
    → put_all (map with_data (take (i + 1) pairs)) ms ≡ put p.0 (data_of p.1) (put_all (map with_data (take i pairs)) ms)
members_next pairs i p ms l e =
    let more : take (i + 1) pairs ≡ take i pairs ++ p ∷ [] = take_more pairs i p l ∙ ap (λ x. take i pairs ++ x ∷ []) (sym e) in
    ap (λ ps. put_all (map with_data ps) ms) more ∙ ap (λ ps. put_all ps ms) (map-append with_data (take i pairs) (p ∷ [])) ∙ put_all_push (map with_data (take i pairs)) (with_data p) ms
