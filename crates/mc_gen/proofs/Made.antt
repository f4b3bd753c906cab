-- The tracks of a made film are read back.
use Rattle.std.proofs.Common.{◌≡◌, ℕ, zero, suc, ◌≤◌, true, List, length, Ok, refl, arith, codes}
use Rattle.std.specs.Str.{IsAscii, is_utf8}
use Rattle.std.proofs.lemmas.Str.{IsUtf8-from_ascii, is_utf8-from_IsUtf8}
use Rattle.mc_ebml.specs.Element.{head_at, id_at, size_at, coded_at, uint_of, text_of}
use Rattle.mc_ebml.specs.Written.{head_octets, element_octets}
use Rattle.mc_ebml.specs.Whole.{element_at}
use Rattle.mc_tracks.specs.Children.{child_at, children, children_of}
use Rattle.mc_tracks.specs.Header.{entry_of, tracks_of}
use Rattle.mc_written.specs.Elements.{elements}
use Rattle.mc_gen.specs.Made.{made_body, made_elements, made_tracks}

video_ascii : IsAscii (codes "V_VP9")
video_ascii zero = omega arith
video_ascii (suc zero) = omega arith
video_ascii (suc (suc zero)) = omega arith
video_ascii (suc (suc (suc zero))) = omega arith
video_ascii (suc (suc (suc (suc zero)))) = omega arith
video_ascii (suc (suc (suc (suc (suc k))))) = omega arith

audio_ascii : IsAscii (codes "A_OPUS")
audio_ascii zero = omega arith
audio_ascii (suc zero) = omega arith
audio_ascii (suc (suc zero)) = omega arith
audio_ascii (suc (suc (suc zero))) = omega arith
audio_ascii (suc (suc (suc (suc zero)))) = omega arith
audio_ascii (suc (suc (suc (suc (suc zero))))) = omega arith
audio_ascii (suc (suc (suc (suc (suc (suc k)))))) = omega arith

text_ascii : (text : List ℕ) → IsAscii text → is_utf8 text ≡ true
text_ascii text is = is_utf8-from_IsUtf8 text (IsUtf8-from_ascii text is)

pub made_read : (from : ℕ) → tracks_of made_body from ≡ Ok made_tracks
unfolding head_at id_at size_at coded_at uint_of text_of head_octets element_octets element_at child_at children children_of entry_of tracks_of
made_read from = rw (text_ascii (codes "V_VP9") video_ascii, text_ascii (codes "A_OPUS") audio_ascii) refl

pub made_short : length made_body ≤ 16777216
unfolding head_octets element_octets
made_short = let long : length made_body ≡ 39 = refl in omega arith

pub video_short : length (elements (made_elements 1 (codes "V_VP9"))) ≤ 65536
unfolding head_octets element_octets
video_short = let long : length (elements (made_elements 1 (codes "V_VP9"))) ≡ 17 = refl in omega arith

pub audio_short : length (elements (made_elements 2 (codes "A_OPUS"))) ≤ 65536
unfolding head_octets element_octets
audio_short = let long : length (elements (made_elements 2 (codes "A_OPUS"))) ≡ 18 = refl in omega arith
