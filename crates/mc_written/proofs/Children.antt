-- The children of a body that elements make, and what they stand for.
use Rattle.std.proofs.Common.{◌≡◌, ℕ, zero, suc, ◌+◌, ◌-◌, ◌<◌, ◌≤◌, ◌^◌, Bool, true, false, cond, List, [], ◌∷◌, length, Option, Some, None, Ok, refl, sym, arith, length-append, ltb, leb, eq-eqb}
use Rattle.std.proofs.lemmas.Bool.{le-leb, le-ltb, ne_eqb}
use Rattle.std.specs.Prelude.{◌==◌, ◌||◌, not, nat_le, nat_lt, IsTrue, is_some}
use Rattle.std.specs.List.{AllByRecursion}
use Rattle.std.specs.Result.{result_unwrap_or}
use Rattle.std.specs.Str.{IsUtf8}
use Rattle.mc_ebml.specs.declared.read.Size.TheVariants.{Known}
use Rattle.mc_ebml.specs.Element.{uint_of, text_of}
use Rattle.mc_ebml.specs.Written.{is_id, head_octets, element_octets, has_no_zero}
use Rattle.mc_ebml.specs.declared.whole.WholeElement.{WholeElement}
use Rattle.mc_tracks.specs.declared.children.Master.{Master}
use Rattle.mc_ebml.specs.Whole.{element_at}
use Rattle.mc_tracks.specs.Children.{child_at, is_integer, children, children_of, first}
use Rattle.mc_tracks.specs.Header.{body_of, integer, text}
use Rattle.mc_written.proofs.Lower.{Lower}
use Rattle.mc_written.specs.Elements.{Element, element_text, elements}
use Rattle.mc_written.proofs.Standing.{Stands, stands_whole, first_part, second_part, lies, range_is, head_stands}
use Rattle.mc_written.proofs.Lengths.{element_long}

-- the child that an element at a place is
abbrev pub child_of : ℕ → Element → WholeElement
child_of at e = record { id = e.0; place = at; at = at + length (head_octets e.0 (Known (length e.1))); stop = at + length (element_text e) }

abbrev pub children_at : ℕ → List Element → List WholeElement
children_at at [] = []
children_at at (e ∷ es) = child_of at e ∷ children_at (at + length (element_text e)) es

-- an element that can be written
abbrev pub CanStand : Element → Type 0
CanStand e = IsTrue (is_id e.0) × (length e.1 < 2 ^ 56 - 1)

pub stop_is : (at : ℕ) (e : Element) → at + length (head_octets e.0 (Known (length e.1))) + length e.1 ≡ at + length (element_text e)
unfolding element_octets
stop_is at e = omega (arith, length-append (head_octets e.0 (Known (length e.1))) e.1)

pub element_read : (law : Lower) (octets : List ℕ) (at : ℕ) (e : Element) → CanStand e → Stands octets at (element_text e) → element_at octets at ≡ Some (child_of at e)
unfolding element_at element_octets
element_read law octets at e can s =
    let head = head_stands law octets e.1 at e.0 (Known (length e.1)) can.0 can.1 s in
    let within : leb (at + length (element_text e)) (length octets) ≡ true = le-leb (at + length (element_text e)) (length octets) (lies octets (element_text e) at s) in
    rw (head, stop_is at e, within) refl

pub body_read : (octets : List ℕ) (at : ℕ) (e : Element) → Stands octets at (element_text e) → body_of octets (child_of at e) ≡ e.1
unfolding element_octets
body_read octets at e s =
    let heads : List ℕ = head_octets e.0 (Known (length e.1)) in
    range_is octets e.1 (at + length heads) (at + length (element_text e)) (second_part octets heads e.1 at s) (sym (stop_is at e))

-- ---- all children

-- and that is no integer of more than 8 octets
abbrev pub CanBeChild : Master → Element → Type 0
CanBeChild master e = CanStand e × IsTrue (nat_le (length e.1) 8 || not (is_integer master e.0))

child_read : (law : Lower) (master : Master) (octets : List ℕ) (at : ℕ) (e : Element) → CanBeChild master e → Stands octets at (element_text e) → child_at master octets at ≡ Some (child_of at e)
unfolding child_at
child_read law master octets at e can s =
    let size : at + length (element_text e) - (at + length (head_octets e.0 (Known (length e.1)))) ≡ length e.1 = omega (arith, stop_is at e) in
    rw (element_read law octets at e can.0 s, size, can.1) refl

pub children_read : (law : Lower) (n : ℕ) (master : Master) (octets : List ℕ) (at : ℕ) (es : List Element) → Stands octets at (elements es) → at + length (elements es) ≡ length octets
    → length (elements es) ≤ n → AllByRecursion (CanBeChild master) es → children n master octets at ≡ record { whole = children_at at es; broken = None }
unfolding children
children_read law zero master octets at [] s end enough all = refl
children_read law zero master octets at (e ∷ es) s end enough all = absurd (omega (arith, length-append (element_text e) (elements es), element_long e))
children_read law (suc n) master octets at [] s end enough all = rw (eq-eqb at (length octets) (omega arith)) refl
children_read law (suc n) master octets at (e ∷ es) s end enough all =
    let sum = length-append (element_text e) (elements es) in
    let long = element_long e in
    let more : (at == length octets) ≡ false = ne_eqb at (length octets) (λ same. omega arith) in
    let rest = children_read law n master octets (at + length (element_text e)) es (second_part octets (element_text e) (elements es) at s) (omega arith) (omega arith) all.1 in
    rw (more, child_read law master octets at e all.0 (first_part octets (element_text e) (elements es) at s), rest) refl

pub children_all : (law : Lower) (master : Master) (es : List Element) → AllByRecursion (CanBeChild master) es → children_of master (elements es) ≡ record { whole = children_at 0 es; broken = None }
unfolding children_of
children_all law master es all = children_read law (length (elements es)) master (elements es) 0 es (stands_whole (elements es)) (omega arith) (omega arith) all

-- ---- the first of an ID

abbrev pub found : ℕ → List Element → Option (List ℕ)
found id [] = None
found id (e ∷ es) = cond (e.0 == id) (Some e.1) (found id es)

abbrev pub integer_value : ℕ → Option (List ℕ) → ℕ
integer_value otherwise None = otherwise
integer_value otherwise (Some []) = otherwise
integer_value otherwise (Some (b ∷ bs)) = result_unwrap_or (uint_of (b ∷ bs)) otherwise

abbrev pub text_value : List ℕ → Option (List ℕ) → List ℕ
text_value otherwise None = otherwise
text_value otherwise (Some octets) = cond (nat_lt 65536 (length octets)) [] (result_unwrap_or (text_of octets) [])

integer_of : (octets : List ℕ) (at otherwise id : ℕ) (body : List ℕ) → Stands octets at (element_text (id, body)) → integer octets otherwise (Some (child_of at (id, body))) ≡ integer_value otherwise (Some body)
integer_of octets at otherwise id [] s =
    let same : (at + length (head_octets id (Known 0)) == at + length (element_text (id, []))) ≡ true =
    eq-eqb (at + length (head_octets id (Known 0))) (at + length (element_text (id, []))) (omega (arith, stop_is at (id, []))) in
    rw same refl
integer_of octets at otherwise id (b ∷ bs) s =
    let e : Element = (id, b ∷ bs) in
    let apart : (at + length (head_octets id (Known (length (b ∷ bs)))) == at + length (element_text e)) ≡ false =
    ne_eqb (at + length (head_octets id (Known (length (b ∷ bs))))) (at + length (element_text e)) (λ same. omega (arith, stop_is at e)) in
    rw (apart, body_read octets at e s) refl

text_of_child : (octets : List ℕ) (at : ℕ) (otherwise : List ℕ) (e : Element) → Stands octets at (element_text e) → text octets otherwise (Some (child_of at e)) ≡ text_value otherwise (Some e.1)
text_of_child octets at otherwise e s =
    let size : at + length (element_text e) - (at + length (head_octets e.0 (Known (length e.1)))) ≡ length e.1 = omega (arith, stop_is at e) in
    rw (body_read octets at e s, size) refl

pub integer_read : (octets : List ℕ) (at otherwise id : ℕ) (es : List Element) → Stands octets at (elements es)
    → integer octets otherwise (first id (children_at at es)) ≡ integer_value otherwise (found id es)
integer_read octets at otherwise id [] s = refl
integer_read octets at otherwise id (e ∷ es) s = by_test (e.0 == id) (integer_read octets (at + length (element_text e)) otherwise id es (second_part octets (element_text e) (elements es) at s))
  where
    by_test : (b : Bool) → integer octets otherwise (first id (children_at (at + length (element_text e)) es)) ≡ integer_value otherwise (found id es)
        → integer octets otherwise (cond b (Some (child_of at e)) (first id (children_at (at + length (element_text e)) es))) ≡ integer_value otherwise (cond b (Some e.1) (found id es))
    by_test true rest = integer_of octets at otherwise e.0 e.1 (first_part octets (element_text e) (elements es) at s)
    by_test false rest = rest

pub text_read : (octets : List ℕ) (at : ℕ) (otherwise : List ℕ) (id : ℕ) (es : List Element) → Stands octets at (elements es)
    → text octets otherwise (first id (children_at at es)) ≡ text_value otherwise (found id es)
text_read octets at otherwise id [] s = refl
text_read octets at otherwise id (e ∷ es) s = by_test (e.0 == id) (text_read octets (at + length (element_text e)) otherwise id es (second_part octets (element_text e) (elements es) at s))
  where
    by_test : (b : Bool) → text octets otherwise (first id (children_at (at + length (element_text e)) es)) ≡ text_value otherwise (found id es) → text octets otherwise (cond b (Some (child_of at e)) (first id (children_at (at + length (element_text e)) es))) ≡ text_value otherwise (cond b (Some e.1) (found id es))
    by_test true rest = text_of_child octets at otherwise e (first_part octets (element_text e) (elements es) at s)
    by_test false rest = rest

pub some_read : (at id : ℕ) (es : List Element) → is_some (first id (children_at at es)) ≡ is_some (found id es)
some_read at id [] = refl
some_read at id (e ∷ es) = by_test (e.0 == id) (some_read (at + length (element_text e)) id es)
  where
    by_test : (b : Bool) → is_some (first id (children_at (at + length (element_text e)) es)) ≡ is_some (found id es) → is_some (cond b (Some (child_of at e)) (first id (children_at (at + length (element_text e)) es))) ≡ is_some (cond b (Some e.1) (found id es))
    by_test true rest = refl
    by_test false rest = rest

-- ---- what a body stands for

pub integer_is : (otherwise n : ℕ) (body : List ℕ) → 0 < length body → uint_of body ≡ Ok n → integer_value otherwise (Some body) ≡ n
integer_is otherwise n [] some is = absurd (omega arith)
integer_is otherwise n (b ∷ bs) some is = rw is refl

pub text_is : (law : Lower) (otherwise body : List ℕ) → length body ≤ 65536 → IsUtf8 body → has_no_zero body ≡ true → text_value otherwise (Some body) ≡ body
text_is law otherwise body short utf8 no_zero =
    let fits : ltb 65536 (length body) ≡ false = le-ltb 65536 (length body) short in
    rw (fits, law.texts body utf8 no_zero) refl
