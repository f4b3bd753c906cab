-- A look-up that reads on, from what it knows at a mark.
use Rattle.std.proofs.Common.{◌≡◌, ℕ, ◌+◌, Bool, true, false, List, [], ◌∷◌, ◌++◌, Option, Some, None, ℤ, refl, sym, ap, subst, ◌∙◌, inl, inr, append_assoc, arith}
use Rattle.std.proofs.lemmas.Bool.{cases_lt}
use Rattle.std.specs.Prelude.{◌==◌, ◌&&◌, int_le, if◌then◌else◌}
use Rattle.std.specs.Option.{option_map}
use Rattle.mc_packet.specs.declared.packet.Packet.{Packet}
use Rattle.mc_packet.specs.declared.walk.Ending.{Ending}
use Rattle.mc_packet.specs.declared.walk.Mark.{Mark}
use Rattle.mc_walk.specs.declared.plan.Plan.{Plan}
use Rattle.mc_walk.specs.Parts.{part_at, chunk_at}
use Rattle.mc_walk.specs.Walk.{Rest}
use Rattle.mc_cursor.specs.declared.head.HeadChunk.{HeadChunk}
use Rattle.mc_cursor.specs.Heads.{head_chunk_of}
use Rattle.mc_cursor.specs.Standing.{ReadsPart}
use Rattle.mc_packet.specs.Choices.{or_else}
use Rattle.mc_journal.specs.Films.{TimesRise, first, last, syncs}
use Rattle.mc_index.specs.declared.entry.Point.{Point}
use Rattle.mc_index.specs.declared.search.Since.{Since}
use Rattle.mc_index.specs.declared.search.Found.{Found}
use Rattle.mc_index.specs.declared.search.Found.TheVariants as found
use Rattle.mc_index.specs.Answers.{IsAround}
use Rattle.mc_index.specs.Entries.{is_upto, track_point}
use Rattle.mc_index.specs.Fronts.{Front, film_points, any_past}
use Rattle.mc_index.specs.Fronts.Front.{read_on}
use Rattle.mc_index.specs.Scans.{IsPlan, point_of, last_point}
use Rattle.mc_index.specs.Searches.{IsSince, found_point, unless_ended, found_by, NearReads}
use Rattle.mc_index.proofs.Fronts.{front-whole, front-ended, rest_from, part-at, IsLater, front-later, front-same}
use Rattle.mc_index.proofs.Noting.{syncs-append, shown, syncs-shown, point-is, point-on}
use Rattle.mc_index.proofs.Timing.{rise-front, past-front, none-past, upto-point, past-point}

-- ---- what a head told

ended-or : (ending : Option Ending) (f g : Found) → unless_ended ending f ≡ g → (g ≡ found.End → ⊥) → (ending ≡ None) × (f ≡ g)
ended-or None f g e other = (refl, e)
ended-or (Some ending) f g e other = absurd (other (sym e))

abbrev IsPoint : ℤ → Option Point → Found → Type 0
IsPoint t o found.Other = o ≡ None
IsPoint t o (found.Upto p) = (o ≡ Some p) × (int_le p.time t ≡ true)
IsPoint t o (found.Past p) = (o ≡ Some p) × (int_le p.time t ≡ false)
IsPoint t o found.End = ⊥

by-time : (t : ℤ) (p : Point) (b : Bool) → int_le p.time t ≡ b → IsPoint t (Some p) (if b then found.Upto p else found.Past p)
by-time t p true e = (refl, e)
by-time t p false e = (refl, e)

is-point : (t : ℤ) (o : Option Point) → IsPoint t o (found_point t o)
is-point t None = refl
is-point t (Some p) = by-time t p (int_le p.time t) refl

-- the head behind a mark, and what it tells
abbrev pub head_at : Plan → Mark → HeadChunk
head_at plan m = head_chunk_of (chunk_at plan m)

pub record Tells (plan : Plan) (track : ℕ) (t : ℤ) (m : Mark) (f : Found) : Type 0 where
  pub goes : (part_at plan m).ending ≡ None
  pub point : IsPoint t (track_point track (head_at plan m) (head_at plan m).block) f

told-by : (plan : Plan) (track : ℕ) (t : ℤ) (m : Mark) (f : Found) → f ≡ found_by track t (head_at plan m) → (f ≡ found.End → ⊥) → Tells plan track t m f
told-by plan track t m f is other =
    let o = track_point track (head_at plan m) (head_at plan m).block in
    let both = ended-or (part_at plan m).ending (found_point t o) f (sym is) other in
    record { goes = both.0; point = subst (IsPoint t o) both.1 (is-point t o) }

pub told-other : (plan : Plan) (track : ℕ) (t : ℤ) (m : Mark) → found.Other ≡ found_by track t (head_at plan m) → Tells plan track t m found.Other
told-other plan track t m is = told-by plan track t m found.Other is (λ e. cc e)

pub told-upto : (plan : Plan) (track : ℕ) (t : ℤ) (m : Mark) (p : Point) → found.Upto p ≡ found_by track t (head_at plan m) → Tells plan track t m (found.Upto p)
told-upto plan track t m p is = told-by plan track t m (found.Upto p) is (λ e. cc e)

pub told-past : (plan : Plan) (track : ℕ) (t : ℤ) (m : Mark) (p : Point) → found.Past p ≡ found_by track t (head_at plan m) → Tells plan track t m (found.Past p)
told-past plan track t m p is = told-by plan track t m (found.Past p) is (λ e. cc e)

not-end : (t : ℤ) (o : Option Point) (f : Found) → f ≡ found.End → IsPoint t o f → ⊥
not-end t o f e point = rw e at point

pub told-end : (plan : Plan) (track : ℕ) (t : ℤ) (m : Mark) → found.End ≡ found_by track t (head_at plan m) → (ending : Ending) × ((part_at plan m).ending ≡ Some ending)
told-end plan track t m is = by-ending (part_at plan m).ending (track_point track (head_at plan m) (head_at plan m).block) is
  where
    by-ending : (e : Option Ending) (o : Option Point) → found.End ≡ unless_ended e (found_point t o) → (ending : Ending) × (e ≡ Some ending)
    by-ending None o is = absurd (not-end t o (found_point t o) (sym is) (is-point t o))
    by-ending (Some ending) o is = (ending, refl)

-- ---- reading on

since-on : (plan : Plan) (track : ℕ) (t : ℤ) (s : Since) (o before : Option Point) → IsPlan plan → IsSince plan track t s → (part_at plan s.mark).ending ≡ None
    → track_point track (head_at plan s.mark) (head_at plan s.mark).block ≡ o → before ≡ or_else o s.before → is_upto t before ≡ true
    → IsSince plan track t (record { mark = (part_at plan s.mark).to; before = before })
since-on plan track t s o before is since goes point next upto = record {
  blocks = since.blocks + 1;
  packets = since.packets ++ (part_at plan s.mark).packets;
  read = read_on since.blocks s.mark since.packets since.read goes;
  before = next ∙ ap (or_else o) since.before ∙ ap (λ x. or_else x (last_point plan since.packets track)) (sym point)
      ∙ sym (point-on plan since.blocks s.mark since.packets track is since.read);
  upto = upto;
}

pub since-other : (plan : Plan) (track : ℕ) (t : ℤ) (s : Since) → IsPlan plan → IsSince plan track t s → Tells plan track t s.mark found.Other
    → IsSince plan track t (record { mark = (part_at plan s.mark).to; before = s.before })
since-other plan track t s is since tells = since-on plan track t s None s.before is since tells.goes tells.point refl since.upto

pub since-upto : (plan : Plan) (track : ℕ) (t : ℤ) (s : Since) (p : Point) → IsPlan plan → IsSince plan track t s → Tells plan track t s.mark (found.Upto p)
    → IsSince plan track t (record { mark = (part_at plan s.mark).to; before = Some p })
since-upto plan track t s p is since tells = since-on plan track t s (Some p) (Some p) is since tells.goes tells.point.0 refl tells.point.1

-- ---- the answer

film-points : (plan : Plan) (n : ℕ) (m : Mark) (ps : List Packet) (track : ℕ) → IsPlan plan → Front plan n m ps
    → film_points plan track ≡ syncs track ps ++ syncs track ((rest_from plan m).0)
film-points plan n m ps track is front =
    ap (λ (r : Rest). syncs track r.0) (front-whole plan n m ps is front) ∙ syncs-append track ps (rest_from plan m).0

first-append : (xs ys : List Packet) → first (xs ++ ys) ≡ or_else (first xs) (first ys)
first-append [] ys = refl
first-append (x ∷ xs) ys = refl

one-only : (b : Bool) (p : Packet) → last (if b then p ∷ [] else []) ≡ first (if b then p ∷ [] else [])
one-only true p = refl
one-only false p = refl

shown-one : (track : ℕ) (ps : List Packet) → last (shown track ps) ≡ first (shown track ps)
shown-one track [] = refl
shown-one track (p ∷ ps) = one-only (p.track == track && p.key) (p)

map-first : (plan : Plan) (xs ys : List Packet) (p : Point) → Some p ≡ option_map (point_of plan) (first xs) → Some p ≡ option_map (point_of plan) (first (xs ++ ys))
map-first plan [] ys p e = absurd (cc e)
map-first plan (x ∷ xs) ys p e = e

pub around-past : (plan : Plan) (track : ℕ) (t : ℤ) (s : Since) (p : Point) → IsPlan plan → IsSince plan track t s → Tells plan track t s.mark (found.Past p)
    → IsAround plan track t (record { before = s.before; after = Some p })
around-past plan track t s p is since tells =
    let qs = (part_at plan s.mark).packets in
    let to = (part_at plan s.mark).to in
    let seen = syncs track since.packets in
    let next = syncs track qs in
    let rest = syncs track ((rest_from plan to).0) in
    let on : Front plan (since.blocks + 1) to (since.packets ++ qs) = read_on since.blocks s.mark since.packets since.read tells.goes in
    let synced = (part-at plan since.blocks s.mark since.packets is since.read).synced in
    let one : last next ≡ first next = ap last (syncs-shown track qs synced) ∙ shown-one track qs ∙ ap first (sym (syncs-shown track qs synced)) in
    let at : Some p ≡ option_map (point_of plan) (first next) =
    sym tells.point.0 ∙ point-is plan since.blocks s.mark since.packets track is since.read ∙ ap (option_map (point_of plan)) one in
    let after = map-first plan next rest p at in
    record {
      earlier = seen;
      later = next ++ rest;
      whole = film-points plan (since.blocks + 1) to (since.packets ++ qs) track is on
          ∙ ap (λ ts. ts ++ rest) (syncs-append track since.packets qs) ∙ append_assoc seen next rest;
      before = since.before;
      upto = upto-point plan t (last seen) s.before since.before since.upto;
      after = after;
      past = past-point plan t (first (next ++ rest)) p after tells.point.1;
    }

pub around-ended : (plan : Plan) (track : ℕ) (t : ℤ) (s : Since) (ending : Ending) → IsPlan plan → IsSince plan track t s → (part_at plan s.mark).ending ≡ Some ending
    → IsAround plan track t (record { before = s.before; after = None })
around-ended plan track t s ending is since ends =
    let seen = syncs track since.packets in
    record {
      earlier = seen;
      later = [];
      whole = ap (λ ps. syncs track ps) (front-ended plan since.blocks s.mark since.packets ending is since.read ends) ∙ syncs-append track since.packets [];
      before = since.before;
      upto = upto-point plan t (last seen) s.before since.before since.upto;
      after = refl;
      past = tt;
    }

-- ---- how far is read

abbrev points_of : ℕ → List Packet → List Packet
points_of track ps = syncs track ps

-- what was read up to a mark shows no later sync point
none-shown : (plan : Plan) (track : ℕ) (t : ℤ) (s : Since) → IsPlan plan → (since : IsSince plan track t s) → TimesRise (film_points plan track)
    → any_past t (syncs track since.packets) ≡ false
none-shown plan track t s is since rise =
    let seen = syncs track since.packets in
    let whole = film-points plan since.blocks s.mark since.packets track is since.read in
    none-past t seen (rise-front seen (syncs track ((rest_from plan s.mark).0)) (subst TimesRise whole rise)) (upto-point plan t (last seen) s.before since.before since.upto)

front-shown : (track : ℕ) (t : ℤ) (ps rest whole : List Packet) → whole ≡ ps ++ rest → any_past t (points_of track ps) ≡ true → any_past t (points_of track whole) ≡ true
front-shown track t ps rest whole e past = rw (e, syncs-append track ps rest) (past-front t (points_of track ps) (points_of track rest) past)

-- so a mark up to which one is shown lies behind the next part
shown-later : (plan : Plan) (track : ℕ) (t : ℤ) (s : Since) (n : ℕ) (m : Mark) (ps : List Packet) → IsPlan plan → (since : IsSince plan track t s) → TimesRise (film_points plan track)
    → Front plan n m ps → any_past t (points_of track ps) ≡ true → IsLater plan s.mark m since.packets ps
shown-later plan track t s n m ps is since rise front past =
    let none = none-shown plan track t s is since rise in
    elim (cases_lt since.blocks n) [
      | inl later ↦ front-later plan since.blocks n s.mark m since.packets ps is later since.read front
      | inr not_later ↦ absurd (elim (cases_lt n since.blocks) [
        | inr other ↦
            let e : n ≡ since.blocks = omega arith in
            let same = front-same plan n since.blocks m s.mark ps since.packets e front since.read in
            let all : any_past t (points_of track since.packets) ≡ true = ap (λ qs. any_past t (points_of track qs)) same.packets ∙ past in
            cc (none, all)
        | inl less ↦
            let before = front-later plan n since.blocks m s.mark ps since.packets is less front since.read in
            let all = front-shown track t ps before.rest since.packets before.whole past in
            cc (none, all)
      ])
    ]

pub near-on : (plan : Plan) (track : ℕ) (t : ℤ) (s : Since) (before between now : ℕ) → IsPlan plan → IsSince plan track t s → ReadsPart (part_at plan s.mark) between now
    → NearReads plan (Some track) t before between → NearReads plan (Some track) t before now
near-on plan track t s before between now is since reads near = λ rise n m ps front past.
    let later = shown-later plan track t s n m ps is since rise front past in
    let far = near rise n m ps front past in
    let on = reads later.goes in
    let onward = later.onward in
    omega (arith, far, on, onward)

pub near-begins : (plan : Plan) (track : ℕ) (t : ℤ) (reach : ℕ) → NearReads plan (Some track) t reach reach
near-begins plan track t reach = λ rise n m ps front past. omega arith
