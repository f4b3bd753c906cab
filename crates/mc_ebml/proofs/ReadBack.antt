-- What is written is read back, whatever follows.
use Rattle.std.proofs.Common.{◌≡◌, ℕ, zero, suc, ◌+◌, ◌-◌, ◌*◌, ◌%◌, ◌^◌, ◌<◌, ◌≤◌, ◌==◌, inl, inr, Bool, true, false, not, ◌&&◌, List, [], ◌∷◌, ◌++◌, length, Ok, refl, sym, ap, ◌∙◌, arith, append_assoc, length-append, ltb}
use Rattle.std.specs.Int.{byte_at, bytes_high_first, is_in_range}
use Rattle.std.proofs.lemmas.Bool.{or_cases, le-ltb, ltb-true, ne_eqb}
use Rattle.std.proofs.lemmas.List.Sums.{take_while-cons}
use Rattle.std.specs.List.{before_first}
use Rattle.std.proofs.lemmas.Bool.Decides.{nat_tests}
use Rattle.std.proofs.lemmas.List.{append-nil}
use Rattle.std.specs.Str.{IsUtf8}
use Rattle.mc_ebml.proofs.Texts.{utf8_is_text}
use Rattle.std.proofs.Math.Seq.{drop-append_seam}
use Rattle.std.proofs.Math.Nat.{mod-eq_of_lt, add-mod_left}
use Rattle.byteorder.specs.Endian.{big_number, big_bytes}
use Rattle.byteorder.specs.Numbers.{big_number-reads_back, length-bytes_high_first}
use Rattle.mc_ebml.specs.declared.read.Size.{Size}
use Rattle.mc_ebml.specs.declared.read.Size.TheVariants.{Known, Unknown}
use Rattle.mc_ebml.specs.Element.{width, coded_from, coded_at, id_from, id_at, size_of, size_at, head_at, uint_of, text_of}
use Rattle.mc_ebml.specs.Written.{marked, is_id, octets_of, coded_width, coded_octets, IsSize, size_width, size_octets, head_octets, HasHead, HasCoded, HasElement, behind_head, has_no_zero, HasUint, HasText}
use Rattle.mc_ebml.proofs.Marks.{marked_fits, first_octet, first_octet_above}

-- a coded number that stands whole
front_coded : (b w : ℕ) (octets : List ℕ) → 0 < b → width b ≡ w → w ≤ length (b ∷ octets)
    → coded_from (b ∷ octets) ≡ Ok (record { value = big_number w (b ∷ octets) % 2 ^ (7 * w); width = w })
front_coded b w octets above is whole =
    let nonzero : (b == 0) ≡ false = ne_eqb b 0 (λ e. omega arith) in
    let long : ltb (length (b ∷ octets)) w ≡ false = le-ltb (length (b ∷ octets)) w whole in
    rw (nonzero, is, long) refl

unmarked : (mark n : ℕ) → n < mark → (mark + n) % mark ≡ n
unmarked mark n fits = add-mod_left mark n ∙ mod-eq_of_lt fits

-- a number behind its marker bit
pub marked_reads : (w n : ℕ) (rest : List ℕ) → 1 ≤ w → w ≤ 8 → n < 2 ^ (7 * w)
    → coded_from (marked w n ++ rest) ≡ Ok (record { value = n; width = w })
marked_reads zero n rest low high fits = absurd (omega arith)
marked_reads (suc k) n rest low high fits =
    front_coded (byte_at k x) (suc k) (bytes_high_first k x ++ rest) (first_octet_above k n below fits) (first_octet k n below fits) whole
    ∙ ap (λ (v : ℕ). Ok (record { value = v % mark; width = suc k })) (big_number-reads_back (suc k) x rest (marked_fits (suc k) n low fits))
    ∙ ap (λ (v : ℕ). Ok (record { value = v; width = suc k })) (unmarked mark n fits)
  where
    mark : ℕ
    mark = 2 ^ (7 * suc k)

    x : ℕ
    x = mark + n

    below : k < 8
    below = omega arith

    whole : suc k ≤ length (byte_at k x ∷ (bytes_high_first k x ++ rest))
    whole = omega (arith, length-append (bytes_high_first k x) rest, length-bytes_high_first k x)

-- an ID that stands whole
front_id : (at b w : ℕ) (octets : List ℕ) → 16 ≤ b → width b ≡ w → w ≤ length (b ∷ octets)
    → id_from at (b ∷ octets) ≡ Ok (big_number w (b ∷ octets), at + w)
front_id at b w octets above is whole =
    let marked : ltb b 16 ≡ false = le-ltb b 16 above in
    let long : ltb (length (b ∷ octets)) w ≡ false = le-ltb (length (b ∷ octets)) w whole in
    rw (marked, is, long) refl

id_of_width : (k at id : ℕ) (rest : List ℕ) → octets_of id ≡ suc k → 16 ≤ byte_at k id → width (byte_at k id) ≡ suc k → id < 256 ^ suc k
    → id_from at (big_bytes (octets_of id) id ++ rest) ≡ Ok (id, at + octets_of id)
id_of_width k at id rest wide above is fits = rw wide
    (front_id at (byte_at k id) (suc k) (bytes_high_first k id ++ rest) above is whole
    ∙ ap (λ (v : ℕ). Ok (v, at + suc k)) (big_number-reads_back (suc k) id rest fits))
  where
    whole : suc k ≤ length (byte_at k id ∷ (bytes_high_first k id ++ rest))
    whole = omega (arith, length-append (bytes_high_first k id) rest, length-bytes_high_first k id)

between : (lo hi c : ℕ) → is_in_range lo hi c ≡ true → (lo ≤ c) × (c ≤ hi)
between lo hi c e = (grind (arith, nat_tests), grind (arith, nat_tests))

id_of : (k lo hi at id : ℕ) (rest : List ℕ) → is_in_range lo hi id ≡ true
    → (lo ≤ id → id ≤ hi → octets_of id ≡ suc k) → (lo ≤ id → id ≤ hi → 16 ≤ byte_at k id) → (lo ≤ id → id ≤ hi → width (byte_at k id) ≡ suc k)
    → hi < 256 ^ suc k → id_from at (big_bytes (octets_of id) id ++ rest) ≡ Ok (id, at + octets_of id)
id_of k lo hi at id rest e wide above is fits =
    let h = between lo hi id e in
    id_of_width k at id rest (wide h.0 h.1) (above h.0 h.1) (is h.0 h.1) (omega arith)

-- an ID
pub id_reads : (at id : ℕ) (rest : List ℕ) → is_id id ≡ true
    → id_from at (big_bytes (octets_of id) id ++ rest) ≡ Ok (id, at + octets_of id)
id_reads at id rest is =
    elim (or_cases (is_in_range 0x80 0xFF id) _ is) [
      | inl e ↦ id_of 0 0x80 0xFF at id rest e (λ l h. grind (arith, nat_tests)) (λ l h. omega arith) (λ l h. grind (arith, nat_tests)) (omega arith)
      | inr more ↦ elim (or_cases (is_in_range 0x4000 0x7FFF id) _ more) [
        | inl e ↦ id_of 1 0x4000 0x7FFF at id rest e (λ l h. grind (arith, nat_tests)) (λ l h. omega arith) (λ l h. grind (arith, nat_tests)) (omega arith)
        | inr last ↦ elim (or_cases (is_in_range 0x200000 0x3FFFFF id) _ last) [
          | inl e ↦ id_of 2 0x200000 0x3FFFFF at id rest e (λ l h. grind (arith, nat_tests)) (λ l h. omega arith) (λ l h. grind (arith, nat_tests)) (omega arith)
          | inr e ↦ id_of 3 0x10000000 0x1FFFFFFF at id rest e (λ l h. grind (arith, nat_tests)) (λ l h. omega arith) (λ l h. grind (arith, nat_tests)) (omega arith)
        ]
      ]
    ]

coded_holds : (n : ℕ) → n < 2 ^ 56 → n < 2 ^ (7 * coded_width n)
coded_holds n h = grind (arith, nat_tests)

coded_bounds : (n : ℕ) → (1 ≤ coded_width n) × (coded_width n ≤ 8)
coded_bounds n = (grind (arith, nat_tests), grind (arith, nat_tests))

-- a coded number in the fewest octets
pub coded_reads : (n : ℕ) (rest : List ℕ) → n < 2 ^ 56 → coded_from (coded_octets n ++ rest) ≡ Ok (record { value = n; width = coded_width n })
unfolding coded_octets
coded_reads n rest h = marked_reads (coded_width n) n rest (coded_bounds n).0 (coded_bounds n).1 (coded_holds n h)

size_of_lem : (n : ℕ) → n < 2 ^ 56 - 1 → size_of (record { value = n; width = coded_width (n + 1) }) ≡ Known n
size_of_lem n h =
    let holds : n + 1 < 2 ^ (7 * coded_width (n + 1)) = coded_holds (n + 1) (omega arith) in
    let known : (n == 2 ^ (7 * coded_width (n + 1)) - 1) ≡ false = ne_eqb n (2 ^ (7 * coded_width (n + 1)) - 1) (λ e. omega arith) in
    rw known refl

abbrev pub value_of : Size → ℕ
value_of Unknown = 127
value_of (Known n) = n

-- a size, as a coded number
size_coded : (size : Size) (rest : List ℕ) → IsSize size → coded_from (size_octets size ++ rest) ≡ Ok (record { value = value_of size; width = size_width size })
size_coded Unknown rest h = let long : ltb (suc (length rest)) 1 ≡ false = le-ltb (suc (length rest)) 1 (omega arith) in rw long refl
size_coded (Known n) rest h =
    marked_reads (coded_width (n + 1)) n rest (coded_bounds (n + 1)).0 (coded_bounds (n + 1)).1
    (let holds = coded_holds (n + 1) (omega arith) in omega arith)

size_is : (size : Size) → IsSize size → size_of (record { value = value_of size; width = size_width size }) ≡ size
size_is Unknown h = refl
size_is (Known n) h = size_of_lem n h

length-size_octets : (size : Size) → length (size_octets size) ≡ size_width size
length-size_octets Unknown = refl
length-size_octets (Known n) = length-bytes_high_first (coded_width (n + 1)) (2 ^ (7 * coded_width (n + 1)) + n)

id_stands : (id : ℕ) (before others : List ℕ) → is_id id ≡ true
    → id_at (before ++ (big_bytes (octets_of id) id ++ others)) (length before) ≡ Ok (id, length before + octets_of id)
unfolding id_at
id_stands id before others is = rw (drop-append_seam before (big_bytes (octets_of id) id ++ others)) (id_reads (length before) id others is)

-- a coded number behind other octets
pub coded_stands : (n : ℕ) (before others : List ℕ) → n < 2 ^ 56
    → coded_at (before ++ (coded_octets n ++ others)) (length before) ≡ Ok (record { value = n; width = coded_width n })
unfolding coded_at
coded_stands n before others h = rw (drop-append_seam before (coded_octets n ++ others)) (coded_reads n others h)

size_stands : (size : Size) (before others : List ℕ) → IsSize size
    → size_at (before ++ (size_octets size ++ others)) (length before) ≡ Ok (size, length before + size_width size)
unfolding size_at coded_at
size_stands size before others h =
    rw (drop-append_seam before (size_octets size ++ others), size_coded size others h)
    (ap (λ (s : Size). Ok (s, length before + size_width size)) (size_is size h))

size_behind : (size : Size) (before ids others : List ℕ) (w : ℕ) → length ids ≡ w → IsSize size
    → size_at (before ++ (ids ++ (size_octets size ++ others))) (length before + w) ≡ Ok (size, length before + w + size_width size)
size_behind size before ids others w e h =
    let wide : length (before ++ ids) ≡ length before + w = length-append before ids ∙ ap (λ (n : ℕ). length before + n) e in
    let stands = size_stands size (before ++ ids) others h in
    let joined = rw (append_assoc before ids (size_octets size ++ others)) at stands in
    rw wide at joined

head_stands : (id : ℕ) (size : Size) (before others : List ℕ) → is_id id ≡ true → IsSize size
    → head_at (before ++ (big_bytes (octets_of id) id ++ (size_octets size ++ others))) (length before)
    ≡ Ok (record { id = id; size = size; body = length before + octets_of id + size_width size })
unfolding head_at
head_stands id size before others is h =
    rw (
      id_stands id before (size_octets size ++ others) is,
      size_behind size before (big_bytes (octets_of id) id) others (octets_of id) (length-bytes_high_first (octets_of id) id) h,
    ) refl

regroup : (a b c d e : List ℕ) → (a ++ ((b ++ c) ++ d)) ++ e ≡ a ++ (b ++ (c ++ (d ++ e)))
regroup a b c d e = simp append_assoc

head_len : (a b c : List ℕ) (m n : ℕ) → length b ≡ m → length c ≡ n → length a + m + n ≡ length (a ++ (b ++ c))
head_len a b c m n hb hc = omega (arith, length-append a (b ++ c), length-append b c)

-- the head of an element behind other octets, whatever follows
pub head_reads : (id : ℕ) (size : Size) (before more after : List ℕ) → is_id id ≡ true → IsSize size
    → after ≡ before ++ (head_octets id size ++ more) → HasHead before after id size
unfolding head_octets
head_reads id size before more after is h e rest =
    let ids : List ℕ = big_bytes (octets_of id) id in
    let sizes : List ℕ = size_octets size in
    let whole : after ++ rest ≡ before ++ (ids ++ (sizes ++ (more ++ rest))) = ap (λ (x : List ℕ). x ++ rest) e ∙ regroup before ids sizes more rest in
    let long : length before + octets_of id + size_width size ≡ length (before ++ (ids ++ sizes)) =
    head_len before ids sizes (octets_of id) (size_width size) (length-bytes_high_first (octets_of id) id) (length-size_octets size) in
    rw whole (head_stands id size before (more ++ rest) is h ∙ ap (λ (b : ℕ). Ok (record { id = id; size = size; body = b })) long)

-- a coded number behind other octets, whatever follows
pub coded_has : (n : ℕ) (before after : List ℕ) → n < 2 ^ 56 → after ≡ before ++ coded_octets n → HasCoded before after n
coded_has n before after h e rest =
    let whole : after ++ rest ≡ before ++ (coded_octets n ++ rest) = ap (λ (x : List ℕ). x ++ rest) e ∙ append_assoc before (coded_octets n) rest in
    rw whole (coded_stands n before rest h)

-- the head alone
pub head_has : (id : ℕ) (size : Size) (before after : List ℕ) → is_id id ≡ true → IsSize size
    → after ≡ before ++ head_octets id size → HasHead before after id size
head_has id size before after is h e = head_reads id size before [] after is h (e ∙ ap (λ (x : List ℕ). before ++ x) (sym (append-nil (head_octets id size))))

-- the body behind the head
pub body_has : (id : ℕ) (size : Size) (before body after : List ℕ) → after ≡ before ++ (head_octets id size ++ body) → behind_head before id size after ≡ body
body_has id size before body after e =
    let whole : after ≡ (before ++ head_octets id size) ++ body = e ∙ sym (append_assoc before (head_octets id size) body) in
    rw whole (drop-append_seam (before ++ head_octets id size) body)

uint_with : (w n : ℕ) → w ≤ 8 → n < 256 ^ w → uint_of (big_bytes w n) ≡ Ok n
unfolding uint_of
uint_with w n high fits =
    let short : ltb 8 w ≡ false = le-ltb 8 w high in
    let value : big_number w (big_bytes w n) ≡ n = ap (big_number w) (sym (append-nil (big_bytes w n))) ∙ big_number-reads_back w n [] fits in
    rw (length-bytes_high_first w n, short, value) refl

-- an unsigned integer
pub uint_reads : (n : ℕ) → n < 2 ^ 64 → uint_of (big_bytes (octets_of n) n) ≡ Ok n
uint_reads n h = uint_with (octets_of n) n (grind (arith, nat_tests)) (grind (arith, nat_tests))

both : (a b : Bool) → (a && b) ≡ true → (a ≡ true) × (b ≡ true)
both true b e = (refl, e)
both false b e = cc

all_before : (text : List ℕ) → has_no_zero text ≡ true → before_first (λ b. b == 0) text ≡ text
all_before [] e = refl
all_before (b ∷ bs) e =
    let parts = both (ltb 0 b) (has_no_zero bs) e in
    let above : 0 < b = ltb-true 0 b parts.0 in
    let nonzero : (b == 0) ≡ false = ne_eqb b 0 (λ z. omega arith) in
    take_while-cons (λ x. not (x == 0)) b bs ∙ rw nonzero (ap (λ (x : List ℕ). b ∷ x) (all_before bs parts.1))

-- a text
pub text_reads : (text : List ℕ) → IsUtf8 text → has_no_zero text ≡ true → text_of text ≡ Ok text
unfolding text_of
text_reads text is no_zero = rw (all_before text no_zero) (utf8_is_text text is)

-- an element behind other octets, and its body
pub element_has : (id size : ℕ) (before body after : List ℕ) (Body : List ℕ → Type 0) → is_id id ≡ true → size < 2 ^ 56 - 1 → length body ≡ size
    → Body body → after ≡ before ++ (head_octets id (Known size) ++ body) → HasElement before after id size Body
element_has id size before body after Body is small long b e =
    let behind : behind_head before id (Known size) after ≡ body = body_has id (Known size) before body after e in
    let whole : length after ≡ length before + length (head_octets id (Known size)) + size =
    ap length e ∙ sym (head_len before (head_octets id (Known size)) body (length (head_octets id (Known size))) size refl long) in
    (head_reads id (Known size) before body after is small e, whole, rw behind b)

-- an element whose body is the octets of an integer
pub uint_has : (id n : ℕ) (before after octets : List ℕ) → octets ≡ big_bytes (octets_of n) n → n < 2 ^ 64
    → HasElement before after id (length octets) (λ body. body ≡ octets) → HasUint before after id n
uint_has id n before after octets is fits has =
    let reads = uint_reads n fits in
    let long : length octets ≡ octets_of n = ap length is ∙ length-bytes_high_first (octets_of n) n in
    let sized : HasElement before after id (octets_of n) (λ body. body ≡ octets) = rw long at has in
    (sized.0, sized.1, ap uint_of (sized.2 ∙ is) ∙ reads)

-- an element whose body is a text
pub text_has : (id : ℕ) (before after octets text : List ℕ) → octets ≡ text → IsUtf8 text → has_no_zero text ≡ true
    → HasElement before after id (length octets) (λ body. body ≡ octets) → HasText before after id text
text_has id before after octets text is utf8 no_zero has =
    let sized : HasElement before after id (length text) (λ body. body ≡ text) = rw is at has in
    (sized.0, sized.1, ap text_of sized.2 ∙ text_reads text utf8 no_zero)
