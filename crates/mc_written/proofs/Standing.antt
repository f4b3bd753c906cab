-- Octets that stand at a place of others, and the head of an element that stands there.
use Rattle.std.proofs.Common.{◌≡◌, ℕ, ◌+◌, ◌-◌, ◌<◌, ◌≤◌, true, List, [], ◌++◌, length, Ok, refl, sym, ap, ◌∙◌, arith, append_assoc, length-append}
use Rattle.std.proofs.Math.Seq.{drop-append_seam, take-append_seam}
use Rattle.std.proofs.lemmas.List.{append-nil}
use Rattle.std.proofs.lemmas.Bool.Decides.{nat_tests}
use Rattle.std.specs.Prelude.{slice_range}
use Rattle.byteorder.specs.Endian.{big_bytes}
use Rattle.byteorder.specs.Numbers.{length-bytes_high_first}
use Rattle.mc_ebml.specs.declared.read.Size.{Size}
use Rattle.mc_ebml.specs.Element.{head_at}
use Rattle.mc_ebml.specs.Written.{is_id, IsSize, head_octets, octets_of, size_octets}
use Rattle.mc_written.proofs.Lower.{Lower}

-- a part of the octets begins at a place
pub record Stands (octets : List ℕ) (at : ℕ) (part : List ℕ) : Type 0 where
  pub before : List ℕ
  pub after : List ℕ
  pub whole : octets ≡ before ++ (part ++ after)
  pub place : length before ≡ at

pub stands_in : (before part after : List ℕ) → Stands (before ++ (part ++ after)) (length before) part
stands_in before part after = record { before = before; after = after; whole = refl; place = refl }

-- the whole of them, at the front
pub stands_whole : (part : List ℕ) → Stands part 0 part
stands_whole part = record { before = []; after = []; whole = sym (append-nil part); place = refl }

pub first_part : (octets a b : List ℕ) (at : ℕ) → Stands octets at (a ++ b) → Stands octets at a
first_part octets a b at s = record {
  before = s.before;
  after = b ++ s.after;
  whole = s.whole ∙ ap (λ (x : List ℕ). s.before ++ x) (append_assoc a b s.after);
  place = s.place;
}

pub second_part : (octets a b : List ℕ) (at : ℕ) → Stands octets at (a ++ b) → Stands octets (at + length a) b
second_part octets a b at s = record {
  before = s.before ++ a;
  after = s.after;
  whole = s.whole ∙ ap (λ (x : List ℕ). s.before ++ x) (append_assoc a b s.after) ∙ sym (append_assoc s.before a (b ++ s.after));
  place = length-append s.before a ∙ ap (λ (n : ℕ). n + length a) s.place;
}

-- it lies in them
pub lies : (octets part : List ℕ) (at : ℕ) → Stands octets at part → at + length part ≤ length octets
lies octets part at s = omega (arith, s.place, ap length s.whole, length-append s.before (part ++ s.after), length-append part s.after)

-- and is what a range gives
pub range_is : (octets part : List ℕ) (at stop : ℕ) → Stands octets at part → stop ≡ at + length part → slice_range octets at stop ≡ part
range_is octets part at stop s e =
    let size : stop - at ≡ length part = omega arith in
    rw (size, s.whole, ← s.place, drop-append_seam s.before (part ++ s.after)) (take-append_seam part s.after)

-- the head of the element that begins there
pub head_stands : (law : Lower) (octets more : List ℕ) (at id : ℕ) (size : Size) → is_id id ≡ true → IsSize size → Stands octets at (head_octets id size ++ more)
    → head_at octets at ≡ Ok (record { id = id; size = size; body = at + length (head_octets id size) })
head_stands law octets more at id size is small s =
    let read = law.heads id size s.before (more ++ s.after) is small in
    let joined : octets ≡ s.before ++ (head_octets id size ++ (more ++ s.after))
    = s.whole ∙ ap (λ (x : List ℕ). s.before ++ x) (append_assoc (head_octets id size) more s.after) in
    rw (joined, ← s.place) (read ∙ ap (λ (n : ℕ). Ok (record { id = id; size = size; body = n })) (length-append s.before (head_octets id size)))

octets_some : (id : ℕ) → 0 < octets_of id
octets_some id = grind (arith, nat_tests)

-- it has an octet
pub head_long : (id : ℕ) (size : Size) → 0 < length (head_octets id size)
unfolding head_octets
head_long id size = omega (arith, length-append (big_bytes (octets_of id) id) (size_octets size), length-bytes_high_first (octets_of id) id, octets_some id)
