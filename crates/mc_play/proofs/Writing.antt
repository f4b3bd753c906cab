-- A transcript that is written piece by piece.
use Rattle.std.proofs.Common.{◌≡◌, ℕ, ◌+◌, ◌≤◌, List, [], ◌∷◌, ◌++◌, length, take, drop, min, Option, Some, None, Result, Ok, Err, zero, suc, refl, sym, ap, subst, ◌∙◌, arith}
use Rattle.std.specs.Result.{IsErr}
use Rattle.std.proofs.Math.Seq.{take-append-add, take-append_seam}
use Rattle.std.proofs.lemmas.List.{append_assoc, take-append-le, take_min}
use Rattle.mc_packet.specs.declared.choice.Choice.{Choice}
use Rattle.mc_journal.specs.declared.record.DemuxRecord.{DemuxRecord}
use Rattle.mc_outside.specs.Sink.{Grows, GrowsByFront}
use Rattle.mc_outside.specs.declared.sink.SinkError.{SinkError}
use Rattle.mc_script.specs.Transcript.{line, lines_from, set_after, set_behind, transcript}
use Rattle.mc_play.specs.Run.{WroteWell}

-- the lines of some records, and of those behind them
pub parted : (set : Choice) (k : ℕ) (rs : List DemuxRecord) → lines_from set (take k rs) ++ lines_from (set_behind set (take k rs)) (drop k rs) ≡ lines_from set rs
parted set zero rs = refl
parted set (suc k) [] = refl
parted set (suc k) (r ∷ rs) = append_assoc (line set r) (lines_from (set_after set r) (take k rs)) _ ∙ ap (λ (x : List ℕ). line set r ++ x) (parted (set_after set r) k rs)

pub pieces : (set behind : Choice) (k : ℕ) (rs part more : List DemuxRecord) → part ≡ take k rs → more ≡ drop k rs → behind ≡ set_behind set part
    → lines_from set part ++ lines_from behind more ≡ lines_from set rs
pieces set behind k rs part more e f h = rw (h, f, e) (parted set k rs)

-- a text that grew twice
pub grows_more : (old mid new : Option (List ℕ)) (a b : List ℕ) → Grows old mid a → Grows mid new b → Grows old new (a ++ b)
grows_more None mid new a b e f =
    let P : Option (List ℕ) → Type 0 = λ x. Grows x new b in subst P e f
grows_more (Some old) mid new a b e f =
    let P : Option (List ℕ) → Type 0 = λ x. Grows x new b in
    let both : new ≡ Some ((old ++ a) ++ b) = subst P e f in
    both ∙ ap (λ (x : List ℕ). Some x) (append_assoc old a b)

-- of two parts one behind the other, a front of the first is one of both
front_of : (n : ℕ) (b c : List ℕ) → take n b ≡ take (min n (length b)) (b ++ c)
front_of n b c =
    let few : min n (length b) ≤ length b = omega arith in
    sym (take-append-le (min n (length b)) b c few ∙ take_min n b)

-- a text that grew, and then by a front of what comes next
pub front_more : (old mid new : Option (List ℕ)) (a b c whole : List ℕ) → a ++ (b ++ c) ≡ whole → Grows old mid a → GrowsByFront mid new b → GrowsByFront old new whole
front_more old mid new a b c whole e g h =
    let m = min h.0 (length b) in
    let grown : Grows old new (a ++ take h.0 b) = grows_more old mid new a (take h.0 b) g h.1 in
    let front : a ++ take h.0 b ≡ take (length a + m) whole
    = ap (λ (x : List ℕ). a ++ x) (front_of h.0 b c) ∙ sym (take-append-add a (b ++ c) m) ∙ ap (λ (x : List ℕ). take (length a + m) x) e in
    let P : List ℕ → Type 0 = λ x. Grows old new x in
    (length a + m, subst P front grown)

pub front_alone : (old new : Option (List ℕ)) (a c whole : List ℕ) → a ++ c ≡ whole → Grows old new a → GrowsByFront old new whole
front_alone old new a c whole e g =
    let P : List ℕ → Type 0 = λ x. Grows old new x in
    (length a, subst P (sym (take-append_seam a c) ∙ ap (λ (x : List ℕ). take (length a) x) e) g)

pub wrote_front : (old new : Option (List ℕ)) (hd : List DemuxRecord) (r : Result Unit SinkError) → IsErr r → GrowsByFront old new (transcript hd) → WroteWell old new hd r
wrote_front old new hd (Ok done) e g = absurd (cc e)
wrote_front old new hd (Err error) e g = g
