-- The texts of a track are UTF-8, short and have no zero octet.
use Rattle.std.proofs.Common.{◌≡◌, ◌≢◌, ℕ, zero, suc, ◌-◌, ◌<◌, ◌≤◌, Bool, true, false, cond, List, [], length, take, drop, get_or, Option, Some, None, Ok, Err, refl, sym, ◌∙◌, arith, nat_lt, ltb-false, codes, All}
use Rattle.std.specs.Result.{result_unwrap_or}
use Rattle.std.specs.List.{position_or_len, before_first}
use Rattle.std.specs.Str.{IsAscii, is_utf8}
use Rattle.std.specs.Prelude.{◌==◌}
use Rattle.std.proofs.lemmas.Str.{IsUtf8-from_ascii, IsUtf8-from_is_utf8}
use Rattle.std.proofs.lemmas.List.{length-take, get_or-take}
use Rattle.std.proofs.lemmas.List.Sums.{fails_before_first}
use Rattle.std.proofs.lemmas.Bool.{eqb-false}
use Rattle.mc_ebml.specs.declared.read.EbmlError.TheVariants.{BadText}
use Rattle.mc_ebml.specs.Element.{text_of}
use Rattle.mc_ebml.specs.declared.whole.WholeElement.{WholeElement}
use Rattle.mc_tracks.specs.Header.{text, body_of}
use Rattle.mc_tracks.specs.TrackList.{IsPlainText}

pub nothing : IsPlainText []
nothing = record { short = omega arith; no_zero = λ k d lt. absurd (omega arith); utf8 = IsUtf8-from_ascii [] (λ k. omega arith) }

pub eng : IsPlainText (codes "eng")
eng = record { short = omega arith; no_zero = letters; utf8 = IsUtf8-from_ascii (codes "eng") ascii }
  where
    letters : All (λ b. b ≢ 0) (codes "eng")
    letters zero d lt = λ e. omega arith
    letters (suc zero) d lt = λ e. omega arith
    letters (suc (suc zero)) d lt = λ e. omega arith
    letters (suc (suc (suc k))) d lt = absurd (omega arith)

    ascii : IsAscii (codes "eng")
    ascii zero = omega arith
    ascii (suc zero) = omega arith
    ascii (suc (suc zero)) = omega arith
    ascii (suc (suc (suc k))) = omega arith

before : (body : List ℕ) → length body ≤ 65536 → is_utf8 (before_first (λ b. b == 0) body) ≡ true → IsPlainText (before_first (λ b. b == 0) body)
before body few text = record {
  utf8 = IsUtf8-from_is_utf8 (before_first (λ b. b == 0) body) text;
  short = omega (arith, length-take (position_or_len (λ b. b == 0) body) body);
  no_zero = λ k d lt.
      let within : k < position_or_len (λ b. b == 0) body = omega (arith, length-take (position_or_len (λ b. b == 0) body) body) in
      let there : get_or (take (position_or_len (λ b. b == 0) body) body) k d ≡ get_or body k d = get_or-take (position_or_len (λ b. b == 0) body) body k d within in
      let differs : (get_or body k d == 0) ≡ false = fails_before_first (λ b. b == 0) body k d within in
      λ e. eqb-false (get_or body k d) 0 differs (sym there ∙ e);
}

one_of : (b : Bool) (octets : List ℕ) → (b ≡ true → IsPlainText octets) → IsPlainText (result_unwrap_or (cond b (Ok octets) (Err BadText)) [])
one_of true octets plain = plain refl
one_of false octets plain = nothing

of_body : (body : List ℕ) → length body ≤ 65536 → IsPlainText (result_unwrap_or (text_of body) [])
unfolding text_of
of_body body few = one_of (is_utf8 (before_first (λ b. b == 0) body)) (before_first (λ b. b == 0) body) (before body few)

within : (octets : List ℕ) (c : WholeElement) (b : Bool) → nat_lt 65536 (c.stop - c.at) ≡ b
    → IsPlainText (cond b [] (result_unwrap_or (text_of (body_of octets c)) []))
within octets c true e = nothing
within octets c false e =
    let few : c.stop - c.at ≤ 65536 = ltb-false 65536 (c.stop - c.at) e in
    of_body (body_of octets c) (omega (arith, length-take (c.stop - c.at) (drop c.at octets)))

pub is_plain : (octets otherwise : List ℕ) (found : Option WholeElement) → IsPlainText otherwise → IsPlainText (text octets otherwise found)
is_plain octets otherwise None plain = plain
is_plain octets otherwise (Some c) plain = within octets c (nat_lt 65536 (c.stop - c.at)) refl
