-- Sizes and spans of a lace, one after another.
use Rattle.std.proofs.Common.{◌≡◌, ℕ, suc, ◌+◌, ◌-◌, ◌<◌, Option, drop, arith, false, List, [], ◌∷◌, ◌++◌, length, Some, None, Ok, refl, sym, ap, ◌∙◌, append_assoc}
use Rattle.std.proofs.lemmas.List.{drop-drop}
use Rattle.mc_block.specs.declared.lace.Lacing.{Lacing}
use Rattle.mc_block.specs.Frames.{Front, size_in_front, next_size, coded_sizes, lacing_of, has_lace, is_laced, frames_in, frames_of}
use Rattle.mc_block.specs.declared.lace.Lacing.TheVariants.{Single, Xiph, Fixed, Ebml}

-- sizes in front of others
abbrev pub sizes_in_front : List ℕ → Front (List ℕ) → Front (List ℕ)
sizes_in_front found None = None
sizes_in_front found (Some x) = Some (found ++ x.0, x.1)

pub none_in_front : (r : Front (List ℕ)) → sizes_in_front [] r ≡ r
none_in_front None = refl
none_in_front (Some x) = refl

pub one_in_front : (found : List ℕ) (size : ℕ) (r : Front (List ℕ)) → sizes_in_front found (size_in_front size r) ≡ sizes_in_front (found ++ size ∷ []) r
one_in_front found size None = refl
one_in_front found size (Some x) = ap (λ (s : List ℕ). Some (s, x.1)) (sym (append_assoc found (size ∷ []) x.0))

pub goes_on : (lacing : Lacing) (n i size taken at : ℕ) (before : Option ℕ) (octets found : List ℕ) (total : Front (List ℕ)) → i < n
    → Some (size, drop taken (drop at octets)) ≡ next_size lacing before (drop at octets)
    → sizes_in_front found (coded_sizes lacing (n - i) before (drop at octets)) ≡ total
    → sizes_in_front (found ++ size ∷ []) (coded_sizes lacing (n - (i + 1)) (Some size) (drop (at + taken) octets)) ≡ total
goes_on lacing n i size taken at before octets found total lt next so_far =
    let k : n - i ≡ suc (n - (i + 1)) = omega arith in
    let one : sizes_in_front found (coded_sizes lacing (n - i) before (drop at octets))
    ≡ sizes_in_front (found ++ size ∷ []) (coded_sizes lacing (n - (i + 1)) (Some size) (drop (at + taken) octets)) =
    rw (k, ← next, drop-drop taken at octets) (one_in_front found size (coded_sizes lacing (n - (i + 1)) (Some size) (drop (at + taken) octets))) in
    sym one ∙ so_far

-- a block without a lace
lone : (lacing : Lacing) (rest : List ℕ) → has_lace lacing ≡ false → frames_in lacing rest ≡ Ok ((0, length rest) ∷ [])
lone Single rest e = refl
lone Xiph rest e = absurd (cc e)
lone Fixed rest e = absurd (cc e)
lone Ebml rest e = absurd (cc e)

pub single_frame : (flags : ℕ) (rest : List ℕ) → is_laced flags ≡ false → frames_of flags rest ≡ Ok ((0, length rest) ∷ [])
unfolding frames_of
single_frame flags rest e = lone (lacing_of flags) rest e
