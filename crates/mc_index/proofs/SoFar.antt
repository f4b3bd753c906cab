-- What a look-up knows of a told film while it reads on.
use Rattle.std.proofs.Common.{◌≡◌, ℕ, List, Option, Some, None, ℤ, sym, ap, subst, ◌∙◌}
use Rattle.mc_packet.specs.declared.walk.Mark.{Mark}
use Rattle.mc_walk.specs.declared.plan.Plan.{Plan}
use Rattle.mc_walk.specs.Parts.{part_at, IsMark}
use Rattle.mc_cursor.specs.declared.cursor.Cursor.{Cursor}
use Rattle.mc_cursor.specs.Standing.{plan_for, StandsFor, mark_of, file_of, at_mark, ReadsPart}
use Rattle.mc_outside.specs.Shelf.{Files, Opened, content}
use Rattle.mc_cursor.specs.Causes.{Keeps}
use Rattle.mc_cursor.proofs.Chunks.{told_later}
use Rattle.mc_cursor.proofs.Standing.{opening_lies}
use Rattle.mc_index.specs.declared.entry.Point.{Point}
use Rattle.mc_index.specs.declared.index.Index.{Index}
use Rattle.mc_index.specs.declared.search.Around.{Around}
use Rattle.mc_index.specs.declared.search.Since.{Since}
use Rattle.mc_index.specs.declared.search.Found.TheVariants as found
use Rattle.mc_index.specs.Answers.{IsAround}
use Rattle.mc_index.specs.Scans.{IsPlan, IsIndexOf, StandFor}
use Rattle.mc_index.specs.Searches.{IsSince, found_by, NearReads}
use Rattle.mc_index.proofs.Fronts.{front-mark}
use Rattle.mc_index.proofs.Looking.{head_at, told-other, told-upto, told-past, told-end, since-other, since-upto, around-past, around-ended, near-on, near-begins}

pub is-plan : (octets : List ℕ) (c : Cursor) → StandsFor octets c → IsPlan (plan_for octets c)
is-plan octets c stands = opening_lies octets c stands

abbrev pub since_at : Cursor → Option Point → Since
since_at c before = record { mark = mark_of c; before = before }

pub record SoFar (octets : List ℕ) (track : ℕ) (t : ℤ) (c : Cursor) (x : Index) (before : Option Point) (first now : ℕ) : Type 0 where
  pub stand : StandFor octets c x
  pub since : IsSince (plan_for octets c) track t (since_at c before)
  pub near : NearReads (plan_for octets c) (Some track) t first now

-- a cursor that was moved goes over the same film
pub same-plan : (octets : List ℕ) (c c' : Cursor) → c' ≡ at_mark c (mark_of c') → plan_for octets c' ≡ plan_for octets c
same-plan octets c c' moved = ap (plan_for octets) moved

-- the mark of a place that is known is one of the film
pub since-mark : (plan : Plan) (track : ℕ) (t : ℤ) (s : Since) → IsSince plan track t s → IsMark plan s.mark
since-mark plan track t s since = front-mark plan since.blocks s.mark since.packets since.read

-- from the nearest place
pub so-far-begins : (octets : List ℕ) (track : ℕ) (t : ℤ) (c c' : Cursor) (x : Index) (s : Since) (reach : ℕ) → c' ≡ at_mark c s.mark → StandsFor octets c'
    → IsIndexOf (plan_for octets c) x → IsSince (plan_for octets c) track t s → SoFar octets track t c' x s.before reach reach
so-far-begins octets track t c c' x s reach moved stands index since =
    let at : StandsFor octets (at_mark c s.mark) = subst (StandsFor octets) moved stands in
    let so_far : SoFar octets track t (at_mark c s.mark) x s.before reach reach =
    record { stand = (at, index); since = since; near = near-begins (plan_for octets c) track t reach } in
    subst (λ d. SoFar octets track t d x s.before reach reach) (sym moved) so_far

pub so-far-reads : (octets : List ℕ) (track : ℕ) (t : ℤ) (c : Cursor) (x : Index) (before : Option Point) (first between now : ℕ) → SoFar octets track t c x before first between
    → ReadsPart (part_at (plan_for octets c) (mark_of c)) between now → NearReads (plan_for octets c) (Some track) t first now
so-far-reads octets track t c x before first between now so_far reads =
    near-on (plan_for octets c) track t (since_at c before) first between now (is-plan octets c so_far.stand.0) so_far.since reads so_far.near

-- behind the next head
so-far-on : (octets : List ℕ) (track : ℕ) (t : ℤ) (c c' : Cursor) (x x' : Index) (before before' : Option Point) (first between now : ℕ)
    → SoFar octets track t c x before first between → c' ≡ at_mark c (mark_of c') → StandFor octets c' x' → mark_of c' ≡ (head_at (plan_for octets c) (mark_of c)).to
    → ReadsPart (part_at (plan_for octets c) (mark_of c)) between now
    → IsSince (plan_for octets c) track t (record { mark = (part_at (plan_for octets c) (mark_of c)).to; before = before' }) → SoFar octets track t c' x' before' first now
so-far-on octets track t c c' x x' before before' first between now so_far moved stand to reads since =
    let plan = plan_for octets c in
    let at : StandFor octets (at_mark c (mark_of c')) x' = subst (λ d. StandFor octets d x') moved stand in
    let here : IsSince plan track t (record { mark = mark_of c'; before = before' }) =
    subst (λ (m : Mark). IsSince plan track t (record { mark = m; before = before' })) (sym to) since in
    let on : SoFar octets track t (at_mark c (mark_of c')) x' before' first now =
    record { stand = at; since = here; near = so-far-reads octets track t c x before first between now so_far reads } in
    subst (λ d. SoFar octets track t d x' before' first now) (sym moved) on

pub so-far-other : (octets : List ℕ) (track : ℕ) (t : ℤ) (c c' : Cursor) (x x' : Index) (before : Option Point) (first between now : ℕ)
    → SoFar octets track t c x before first between → c' ≡ at_mark c (mark_of c') → StandFor octets c' x' → mark_of c' ≡ (head_at (plan_for octets c) (mark_of c)).to
    → ReadsPart (part_at (plan_for octets c) (mark_of c)) between now
    → found.Other ≡ found_by track t (head_at (plan_for octets c) (mark_of c)) → SoFar octets track t c' x' before first now
so-far-other octets track t c c' x x' before first between now so_far moved stand to reads is =
    let plan = plan_for octets c in
    so-far-on octets track t c c' x x' before before first between now so_far moved stand to reads
    (since-other plan track t (since_at c before) (is-plan octets c so_far.stand.0) so_far.since (told-other plan track t (mark_of c) is))

pub so-far-upto : (octets : List ℕ) (track : ℕ) (t : ℤ) (c c' : Cursor) (x x' : Index) (before : Option Point) (p : Point) (first between now : ℕ)
    → SoFar octets track t c x before first between → c' ≡ at_mark c (mark_of c') → StandFor octets c' x' → mark_of c' ≡ (head_at (plan_for octets c) (mark_of c)).to
    → ReadsPart (part_at (plan_for octets c) (mark_of c)) between now
    → found.Upto p ≡ found_by track t (head_at (plan_for octets c) (mark_of c)) → SoFar octets track t c' x' (Some p) first now
so-far-upto octets track t c c' x x' before p first between now so_far moved stand to reads is =
    let plan = plan_for octets c in
    so-far-on octets track t c c' x x' before (Some p) first between now so_far moved stand to reads
    (since-upto plan track t (since_at c before) p (is-plan octets c so_far.stand.0) so_far.since (told-upto plan track t (mark_of c) p is))

pub so-far-past : (octets : List ℕ) (track : ℕ) (t : ℤ) (c : Cursor) (x : Index) (before : Option Point) (p : Point) (first now : ℕ)
    → SoFar octets track t c x before first now → found.Past p ≡ found_by track t (head_at (plan_for octets c) (mark_of c))
    → IsAround (plan_for octets c) track t (record { before = before; after = Some p })
so-far-past octets track t c x before p first now so_far is =
    let plan = plan_for octets c in
    around-past plan track t (since_at c before) p (is-plan octets c so_far.stand.0) so_far.since (told-past plan track t (mark_of c) p is)

pub so-far-ended : (octets : List ℕ) (track : ℕ) (t : ℤ) (c : Cursor) (x : Index) (before : Option Point) (first now : ℕ)
    → SoFar octets track t c x before first now → found.End ≡ found_by track t (head_at (plan_for octets c) (mark_of c))
    → IsAround (plan_for octets c) track t (record { before = before; after = None })
so-far-ended octets track t c x before first now so_far is =
    let plan = plan_for octets c in
    let ends = told-end plan track t (mark_of c) is in
    around-ended plan track t (since_at c before) ends.0 (is-plan octets c so_far.stand.0) so_far.since ends.1

-- ---- a cursor that is moved on

pub moved-by : (c c' : Cursor) (m : Mark) → c' ≡ at_mark c m → c' ≡ at_mark c (mark_of c')
moved-by c c' m e = e ∙ ap (λ (d : Cursor). at_mark c (mark_of d)) (sym e)

pub moved-on : (c c' c'' : Cursor) → c' ≡ at_mark c (mark_of c') → c'' ≡ at_mark c' (mark_of c'') → c'' ≡ at_mark c (mark_of c'')
moved-on c c' c'' one two = two ∙ ap (λ (d : Cursor). at_mark d (mark_of c'')) one

-- the file that it reads is told as before
pub told-on : (f f' : Option Files) (o o' : Opened) (r r' : ℕ) (c c' : Cursor) (octets : List ℕ) → Keeps f f' o o' r r' → c' ≡ at_mark c (mark_of c')
    → content f o (file_of c) ≡ Some octets → content f' o' (file_of c') ≡ Some octets
told-on f f' o o' r r' c c' octets kept moved told = ap (content f' o') (ap file_of moved) ∙ told_later f f' o o' r r' (file_of c) octets kept told

-- what is known of the film at a place is known of it at the cursor's first place
pub around-moved : (octets : List ℕ) (c c' : Cursor) (track : ℕ) (t : ℤ) (a : Around) → c' ≡ at_mark c (mark_of c') → IsAround (plan_for octets c') track t a → IsAround (plan_for octets c) track t a
around-moved octets c c' track t a moved around = subst (λ (p : Plan). IsAround p track t a) (same-plan octets c c' moved) around

pub reads-moved : (octets : List ℕ) (c c' : Cursor) (track : Option ℕ) (t : ℤ) (before now : ℕ) → c' ≡ at_mark c (mark_of c') → NearReads (plan_for octets c') track t before now → NearReads (plan_for octets c) track t before now
reads-moved octets c c' track t before now moved reads = subst (λ (p : Plan). NearReads p track t before now) (same-plan octets c c' moved) reads
