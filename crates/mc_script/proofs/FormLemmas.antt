-- The forms of a line by its words.
use Rattle.std.proofs.Common.{◌≡◌, ◌+◌, ◌++◌, ◌∷◌, [], List, ℕ, length, take, drop, refl, ap, sym, ◌∙◌, subst, inl, inr, arith}
use Rattle.std.specs.Prelude.{Bool, true, false, Option, Some, None, MatchOption, codes, cond}
use Rattle.std.specs.List.{position_from}
use Rattle.std.specs.Str.{bytes_eq}
use Rattle.std.proofs.Math.Seq.{take-append_seam, drop-append-add}
use Rattle.std.proofs.lemmas.Bool.{cases_Bool}
use Rattle.std.proofs.lemmas.Iterator.Adapters.{position_from-zero}
use Rattle.std.proofs.lemmas.Slice.Eq.{bytes_eq-Decides}
use Rattle.mc_packet.specs.declared.choice.Kind.{Kind}
use Rattle.mc_packet.specs.declared.choice.Kind.TheVariants as kinds
use Rattle.mc_script.specs.Forms.{Form, around_at, at_form, demux_form, form_by, is_at, kind_of, plain_form, read_form, read_with, seek_form, switch_form, verb_of}
use Rattle.mc_script.specs.Grammar.{HasForm, NoAt, kind_word}
use Rattle.mc_script.specs.Grammar.HasForm.{seek, seek_forward, switch, switch_at, show, demux, demux_take, demux_give, demux_some, read, read_some, drain}

abbrev pub form_of : List (List ℕ) → Option Form
form_of [] = None
form_of (w ∷ ws) = form_by (verb_of w) ws

same_octets : (w v : List ℕ) → bytes_eq w v ≡ true → w ≡ v
same_octets w v told = (bytes_eq-Decides w v).0 told

other_octets : (w v : List ℕ) → (w ≡ v → ⊥) → bytes_eq w v ≡ false
other_octets w v other = elim (cases_Bool (bytes_eq w v)) [ inl told ↦ absurd (other (same_octets w v told)) | inr told ↦ told ]

-- the first `at`

none_at : (k : ℕ) (words : List (List ℕ)) → NoAt words → position_from is_at k words ≡ None
none_at k [] none = refl
none_at k (w ∷ ws) none = rw none.0 (none_at (k + 1) ws none.1)

at_place : (k : ℕ) (tracks behind : List (List ℕ)) → NoAt tracks → position_from is_at k (tracks ++ codes "at" ∷ behind) ≡ Some (length tracks + k)
at_place k [] behind none = ap Some (omega arith)
at_place k (w ∷ ws) behind none = rw none.0 (at_place (k + 1) ws behind none.1 ∙ ap Some (omega arith))

record IsCut (k : ℕ) (words : List (List ℕ)) (i : ℕ) : Type 0 where
  tracks : List (List ℕ)
  behind : List (List ℕ)
  order : words ≡ tracks ++ codes "at" ∷ behind
  none : NoAt tracks
  place : i ≡ length tracks + k

later : (k : ℕ) (w : List ℕ) (ws : List (List ℕ)) (o : Option ℕ) → is_at w ≡ false → MatchOption o (NoAt ws) (IsCut (k + 1) ws) → MatchOption o (NoAt (w ∷ ws)) (IsCut k (w ∷ ws))
later k w ws None told none = (told, none)
later k w ws (Some i) told cut = let p : i ≡ length (w ∷ cut.tracks) + k = omega (arith, cut.place) in record { tracks = w ∷ cut.tracks; behind = cut.behind; order = ap (λ l. w ∷ l) cut.order; none = (told, cut.none); place = p }

cut_at : (k : ℕ) (words : List (List ℕ)) → MatchOption (position_from is_at k words) (NoAt words) (IsCut k words)
cut_at k [] = tt
cut_at k (w ∷ ws) =
    let P : Bool → Type 0 = λ b. MatchOption (cond b (Some k) (position_from is_at (k + 1) ws)) (NoAt (w ∷ ws)) (IsCut k (w ∷ ws)) in
    elim (cases_Bool (is_at w)) [ inl told ↦ subst P (sym told) (record { tracks = []; behind = ws; order = ap (λ v. v ∷ ws) (same_octets w (codes "at") told); none = tt; place = omega arith }) | inr told ↦ subst P (sym told) (later k w ws (position_from is_at (k + 1) ws) told (cut_at (k + 1) ws)) ]

-- the form of a row

at_form_is : (tracks behind : List (List ℕ)) → around_at (Some (length tracks + 0)) (tracks ++ codes "at" ∷ behind) ≡ at_form tracks behind
at_form_is tracks behind =
    let front : take (length tracks + 0) (tracks ++ codes "at" ∷ behind) ≡ tracks = let k : length tracks + 0 ≡ length tracks = omega arith in ap (λ n. take n (tracks ++ codes "at" ∷ behind)) k ∙ take-append_seam tracks (codes "at" ∷ behind) in
    let back : drop (length tracks + 0 + 1) (tracks ++ codes "at" ∷ behind) ≡ behind = let k : length tracks + 0 + 1 ≡ length tracks + 1 = omega arith in ap (λ n. drop n (tracks ++ codes "at" ∷ behind)) k ∙ drop-append-add tracks (codes "at" ∷ behind) 1 in
    rw (front, back) refl

kind_known : (kind : Kind) → kind_of (kind_word kind) ≡ Some kind
kind_known kinds.Video = refl
kind_known kinds.Audio = refl
kind_known kinds.Sub = refl

pub form_is : {words : List (List ℕ)} {form : Form} → HasForm words form → form_of words ≡ Some form
form_is (seek s) = refl
form_is (seek_forward s) = refl
form_is (switch tracks none) = ap (λ o. around_at o tracks) (position_from-zero is_at tracks ∙ none_at 0 tracks none)
form_is (switch_at tracks s none other) = ap (λ o. around_at o (tracks ++ codes "at" ∷ s ∷ [])) (position_from-zero is_at (tracks ++ codes "at" ∷ s ∷ []) ∙ at_place 0 tracks (s ∷ []) none) ∙ at_form_is tracks (s ∷ []) ∙ rw other refl
form_is show = refl
form_is demux = refl
form_is demux_take = refl
form_is demux_give = refl
form_is (demux_some n not_take not_give) = rw (other_octets n (codes "take") not_take, other_octets n (codes "give") not_give) refl
form_is (read kind) = rw (kind_known kind) refl
form_is (read_some kind n) = rw (kind_known kind) refl
form_is drain = refl

-- the row of a form

same_form : (words : List (List ℕ)) (g f : Form) → HasForm words g → Some g ≡ Some f → HasForm words f
same_form words g f has e = let same : g ≡ f = cc in subst (HasForm words) same has

seek_said : (args : List (List ℕ)) (f : Form) → seek_form args ≡ Some f → HasForm (codes "seek" ∷ args) f
seek_said [] f = λ e. cc
seek_said (s ∷ []) f = λ e. same_form _ _ f (seek s) e
seek_said (s ∷ w ∷ []) f = elim (cases_Bool (bytes_eq w (codes "forward"))) [ inl told ↦ rw told (λ e. subst (λ v. HasForm (codes "seek" ∷ s ∷ v ∷ []) f) (sym (same_octets w (codes "forward") told)) (same_form _ _ f (seek_forward s) e)) | inr told ↦ rw told (λ e. cc) ]
seek_said (s ∷ w ∷ x ∷ xs) f = λ e. cc

at_said : (tracks behind : List (List ℕ)) (f : Form) → NoAt tracks → at_form tracks behind ≡ Some f → HasForm (codes "switch" ∷ tracks ++ codes "at" ∷ behind) f
at_said tracks [] f none = λ e. cc
at_said tracks (s ∷ []) f none = elim (cases_Bool (is_at s)) [ inl told ↦ rw told (λ e. cc) | inr told ↦ rw told (λ e. same_form _ _ f (switch_at tracks s none told) e) ]
at_said tracks (s ∷ x ∷ xs) f none = λ e. cc

around_said : (args : List (List ℕ)) (f : Form) (o : Option ℕ) → MatchOption o (NoAt args) (IsCut 0 args) → around_at o args ≡ Some f → HasForm (codes "switch" ∷ args) f
around_said args f None none e = same_form _ _ f (switch args none) e
around_said args f (Some i) cut e =
    subst (λ l. HasForm (codes "switch" ∷ l) f) (sym cut.order)
    (at_said cut.tracks cut.behind f cut.none (sym (at_form_is cut.tracks cut.behind) ∙ ap (λ n. around_at (Some n) (cut.tracks ++ codes "at" ∷ cut.behind)) (sym cut.place) ∙ ap (around_at (Some i)) (sym cut.order) ∙ e))

switch_said : (args : List (List ℕ)) (f : Form) → switch_form args ≡ Some f → HasForm (codes "switch" ∷ args) f
switch_said args f e = around_said args f (position_from is_at 0 args) (cut_at 0 args) (ap (λ o. around_at o args) (sym (position_from-zero is_at args)) ∙ e)

show_said : (args : List (List ℕ)) (f : Form) → plain_form Form.show args ≡ Some f → HasForm (codes "show" ∷ args) f
show_said [] f = λ e. same_form _ _ f show e
show_said (x ∷ xs) f = λ e. cc

drain_said : (args : List (List ℕ)) (f : Form) → plain_form Form.drain args ≡ Some f → HasForm (codes "drain" ∷ args) f
drain_said [] f = λ e. same_form _ _ f drain e
drain_said (x ∷ xs) f = λ e. cc

not_same : (w v : List ℕ) → bytes_eq w v ≡ false → w ≡ v → ⊥
not_same w v told e = let k : bytes_eq w v ≡ true = (bytes_eq-Decides w v).1 e in cc

demux_said : (args : List (List ℕ)) (f : Form) → demux_form args ≡ Some f → HasForm (codes "demux" ∷ args) f
demux_said [] f = λ e. same_form _ _ f demux e
demux_said (w ∷ []) f = elim (cases_Bool (bytes_eq w (codes "take"))) [ inl is_take ↦ rw is_take (λ e. subst (λ v. HasForm (codes "demux" ∷ v ∷ []) f) (sym (same_octets w (codes "take") is_take)) (same_form _ _ f demux_take e)) | inr not_take ↦ elim (cases_Bool (bytes_eq w (codes "give"))) [ inl is_give ↦ rw (not_take, is_give) (λ e. subst (λ v. HasForm (codes "demux" ∷ v ∷ []) f) (sym (same_octets w (codes "give") is_give)) (same_form _ _ f demux_give e)) | inr not_give ↦ rw (not_take, not_give) (λ e. same_form _ _ f (demux_some w (not_same w (codes "take") not_take) (not_same w (codes "give") not_give)) e) ] ]
demux_said (w ∷ x ∷ xs) f = λ e. cc

with_said : (kind : Kind) (args : List (List ℕ)) (f : Form) → read_with (Some kind) args ≡ Some f → HasForm (codes "read" ∷ kind_word kind ∷ args) f
with_said kind [] f = λ e. same_form _ _ f (read kind) e
with_said kind (n ∷ []) f = λ e. same_form _ _ f (read_some kind n) e
with_said kind (n ∷ x ∷ xs) f = λ e. cc

of_kind : (k : List ℕ) (kind : Kind) (args : List (List ℕ)) (f : Form) → bytes_eq k (kind_word kind) ≡ true → read_with (Some kind) args ≡ Some f → HasForm (codes "read" ∷ k ∷ args) f
of_kind k kind args f told e = subst (λ v. HasForm (codes "read" ∷ v ∷ args) f) (sym (same_octets k (kind_word kind) told)) (with_said kind args f e)

kind_said : (k : List ℕ) (args : List (List ℕ)) (f : Form) → read_with (kind_of k) args ≡ Some f → HasForm (codes "read" ∷ k ∷ args) f
kind_said k args f = elim (cases_Bool (bytes_eq k (codes "video"))) [ inl a ↦ rw a (λ e. of_kind k kinds.Video args f a e) | inr a ↦ elim (cases_Bool (bytes_eq k (codes "audio"))) [ inl b ↦ rw (a, b) (λ e. of_kind k kinds.Audio args f b e) | inr b ↦ elim (cases_Bool (bytes_eq k (codes "sub"))) [ inl d ↦ rw (a, b, d) (λ e. of_kind k kinds.Sub args f d e) | inr d ↦ rw (a, b, d) (λ e. cc) ] ] ]

read_said : (args : List (List ℕ)) (f : Form) → read_form args ≡ Some f → HasForm (codes "read" ∷ args) f
read_said [] f = λ e. cc
read_said (k ∷ args) f = kind_said k args f

-- by the first word

abbrev Said : List ℕ → List (List ℕ) → Form → Type 0
Said w args f = form_of (w ∷ args) ≡ Some f → HasForm (w ∷ args) f

is_or : (w v : List ℕ) (args : List (List ℕ)) (f : Form) → Said v args f → (bytes_eq w v ≡ false → Said w args f) → Said w args f
is_or w v args f here others = elim (cases_Bool (bytes_eq w v)) [ inl told ↦ subst (λ n. Said n args f) (sym (same_octets w v told)) here | inr told ↦ others told ]

pub form_said : (words : List (List ℕ)) (form : Form) → form_of words ≡ Some form → HasForm words form
form_said [] f = λ e. cc
form_said (w ∷ args) f =
    is_or w (codes "seek") args f (seek_said args f) (λ a.
    is_or w (codes "switch") args f (switch_said args f) (λ b.
    is_or w (codes "show") args f (show_said args f) (λ c.
    is_or w (codes "demux") args f (demux_said args f) (λ d.
    is_or w (codes "read") args f (read_said args f) (λ g.
    is_or w (codes "drain") args f (drain_said args f) (λ h.
    rw (a, b, c, d, g, h) (λ e. cc)))))))
