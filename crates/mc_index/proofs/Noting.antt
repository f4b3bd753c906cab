-- What a head tells of each track, and what is known of it once that is noted.
use Rattle.std.proofs.Common.{◌≡◌, ℕ, ◌+◌, Bool, true, false, List, [], ◌∷◌, ◌++◌, map, Option, Some, None, refl, sym, ap, subst, ◌∙◌}
use Rattle.std.proofs.lemmas.List.Elements.{filter-append}
use Rattle.std.specs.Prelude.{◌==◌, ◌&&◌, if◌then◌else◌}
use Rattle.std.specs.Option.{option_map}
use Rattle.mc_packet.specs.declared.packet.Packet.{Packet}
use Rattle.mc_packet.specs.declared.walk.Mark.{Mark}
use Rattle.mc_walk.specs.declared.front.BlockMark.{BlockMark}
use Rattle.mc_walk.specs.declared.plan.Plan.{Plan}
use Rattle.mc_walk.specs.Glances.{block_mark, first_mark}
use Rattle.mc_walk.specs.Parts.{mark, part_at, chunk_at}
use Rattle.mc_cursor.specs.declared.head.HeadChunk.{HeadChunk}
use Rattle.mc_cursor.specs.Heads.{head_chunk_of}
use Rattle.mc_packet.specs.Choices.{or_else}
use Rattle.mc_journal.specs.Films.{last, syncs}
use Rattle.mc_index.specs.declared.entry.Point.{Point}
use Rattle.mc_index.specs.declared.entry.LastSync.{LastSync}
use Rattle.mc_index.specs.declared.entry.Entry.{Entry}
use Rattle.mc_index.specs.Entries.{noted, key_of, key_point, track_point, noted_by}
use Rattle.mc_index.specs.Fronts.{Front, leads_of}
use Rattle.mc_filmed.specs.Marks.{mark_at}
use Rattle.mc_index.specs.Fronts.Front.{read_on}
use Rattle.mc_index.specs.Scans.{IsPlan, point_of, last_point, last_sync, IsEntry}
use Rattle.mc_index.proofs.Syncing.{AreSynced, AreLater}
use Rattle.mc_index.proofs.Fronts.{part-at}
use Rattle.mc_index.proofs.Marking.{mark-first}

-- ---- the sync points of a block element

pub syncs-append : (track : ℕ) (ps qs : List Packet) → syncs track (ps ++ qs) ≡ syncs track ps ++ syncs track qs
syncs-append track ps qs = filter-append (λ (p : Packet). p.track == track && p.sync) ps qs

and-false : (b : Bool) → (b && false) ≡ false
and-false true = refl
and-false false = refl

later-none : (track : ℕ) (ps : List Packet) → AreLater ps → syncs track ps ≡ []
later-none track [] later = refl
later-none track (p ∷ ps) later = rw (later.0, and-false (p.track == track)) (later-none track ps later.1)

-- the one sync point of a track among a block element's packets, if it has one
abbrev pub shown : ℕ → List Packet → List Packet
shown track [] = []
shown track (p ∷ ps) = if p.track == track && p.key then p ∷ [] else []

pub syncs-shown : (track : ℕ) (ps : List Packet) → AreSynced ps → syncs track ps ≡ shown track ps
syncs-shown track [] synced = refl
syncs-shown track (p ∷ ps) synced = rw (synced.0, later-none track ps synced.1) refl

-- ---- the last one

or_else-none : {A : Type 0} (o : Option A) → or_else o None ≡ o
or_else-none None = refl
or_else-none (Some x) = refl

or_else-assoc : {A : Type 0} (a b c : Option A) → or_else (or_else a b) c ≡ or_else a (or_else b c)
or_else-assoc None b c = refl
or_else-assoc (Some x) b c = refl

pub last-append : (xs ys : List Packet) → last (xs ++ ys) ≡ or_else (last ys) (last xs)
last-append [] ys = sym (or_else-none (last ys))
last-append (x ∷ xs) ys = ap (λ o. or_else o (Some x)) (last-append xs ys) ∙ or_else-assoc (last ys) (last xs) (Some x)

map-or_else : {A B : Type 0} (f : A → B) (a b : Option A) → option_map f (or_else a b) ≡ or_else (option_map f a) (option_map f b)
map-or_else f None b = refl
map-or_else f (Some x) b = refl

one-shown : (f : Packet → Point) (b : Bool) (p : Packet) (x : Point) → f p ≡ x → (if b then Some x else None) ≡ option_map f (last (if b then p ∷ [] else []))
one-shown f true p x e = ap Some (sym e)
one-shown f false p x e = refl

-- the sync point of a head is the last sync point of its packets, and its mark the one at its block
point-by : (plan : Plan) (k : HeadChunk) (track : ℕ) (ps : List Packet) → AreSynced ps
    → ((q : Packet) (qs : List Packet) → ps ≡ q ∷ qs → mark_at plan q.pos.block ≡ mark q.pos.block k.to.level)
    → track_point track k (first_mark ps) ≡ option_map (point_of plan) (last (shown track ps))
point-by plan k track [] synced at = refl
point-by plan k track (q ∷ qs) synced at =
    one-shown (point_of plan) (q.track == track && q.key) (q) (key_point k (block_mark q))
    (ap (λ (m : Mark). let x : Point = record { time = q.time; mark = m } in x) (at q qs refl))

pub point-is : (plan : Plan) (n : ℕ) (m : Mark) (ps : List Packet) (track : ℕ) → IsPlan plan → Front plan n m ps
    → track_point track (head_chunk_of (chunk_at plan m)) (first_mark (part_at plan m).packets) ≡ last_point plan (part_at plan m).packets track
point-is plan n m ps track is front =
    let p = part_at plan m in
    let synced = (part-at plan n m ps is front).synced in
    point-by plan (head_chunk_of (chunk_at plan m)) track p.packets synced (λ q qs has. mark-first plan n m ps q qs is front has)
    ∙ ap (λ ts. option_map (point_of plan) (last ts)) (sym (syncs-shown track p.packets synced))

pub point-on : (plan : Plan) (n : ℕ) (m : Mark) (ps : List Packet) (track : ℕ) → IsPlan plan → Front plan n m ps
    → last_point plan (ps ++ (part_at plan m).packets) track
    ≡ or_else (track_point track (head_chunk_of (chunk_at plan m)) (first_mark (part_at plan m).packets)) (last_point plan ps track)
point-on plan n m ps track is front =
    let qs = (part_at plan m).packets in
    ap (λ ts. option_map (point_of plan) (last ts)) (syncs-append track ps qs)
    ∙ ap (option_map (point_of plan)) (last-append (syncs track ps) (syncs track qs))
    ∙ map-or_else (point_of plan) (last (syncs track qs)) (last (syncs track ps))
    ∙ ap (λ o. or_else o (last_point plan ps track)) (sym (point-is plan n m ps track is front))

-- ---- an entry, read on by a head

abbrev sync_by : ℕ → Option Point → LastSync
sync_by track point = record { track = track; point = point }

noted-one : (k : HeadChunk) (b : BlockMark) (track : ℕ) (point : Option Point) → b.key ≡ true
    → noted b.track (key_point k b) (sync_by track point) ≡ sync_by track (or_else (track_point track k (Some b)) point)
noted-one k b track point key =
    rw key (elim (b.track == track) as (λ c. (if c then sync_by track (Some (key_point k b)) else sync_by track point) ≡ sync_by track (or_else (if c && true then Some (key_point k b) else None) point))
    [ true ↦ refl | false ↦ refl ])

other-one : (k : HeadChunk) (b : BlockMark) (track : ℕ) (point : Option Point) → b.key ≡ false → sync_by track point ≡ sync_by track (or_else (track_point track k (Some b)) point)
other-one k b track point key = rw (key, and-false (b.track == track)) refl

noted-all : (k : HeadChunk) (b : BlockMark) (f : ℕ → Option Point) (keys : List ℕ) → b.key ≡ true
    → map (noted b.track (key_point k b)) (map (λ j. sync_by j (f j)) keys) ≡ map (λ j. sync_by j (or_else (track_point j k (Some b)) (f j))) keys
noted-all k b f [] key = refl
noted-all k b f (j ∷ keys) key = cc (noted-one k b j (f j) key, noted-all k b f keys key)

other-all : (k : HeadChunk) (b : BlockMark) (f : ℕ → Option Point) (keys : List ℕ) → b.key ≡ false
    → map (λ j. sync_by j (f j)) keys ≡ map (λ j. sync_by j (or_else (track_point j k (Some b)) (f j))) keys
other-all k b f [] key = refl
other-all k b f (j ∷ keys) key = cc (other-one k b j (f j) key, other-all k b f keys key)

key-cases : (k : HeadChunk) (b : BlockMark) (c : Bool) (f : ℕ → Option Point) (keys : List ℕ) → b.key ≡ c
    → noted_by k (if c then Some b else None) (map (λ j. sync_by j (f j)) keys) ≡ map (λ j. sync_by j (or_else (track_point j k (Some b)) (f j))) keys
key-cases k b true f keys key = noted-all k b f keys key
key-cases k b false f keys key = other-all k b f keys key

noted-by : (k : HeadChunk) (block : Option BlockMark) (f : ℕ → Option Point) (keys : List ℕ)
    → noted_by k (key_of block) (map (λ j. sync_by j (f j)) keys) ≡ map (λ j. sync_by j (or_else (track_point j k block) (f j))) keys
noted-by k None f keys = refl
noted-by k (Some b) f keys = key-cases k b b.key f keys refl

same-all : (f g : ℕ → Option Point) (keys : List ℕ) → ((j : ℕ) → f j ≡ g j) → map (λ j. sync_by j (f j)) keys ≡ map (λ j. sync_by j (g j)) keys
same-all f g [] same = refl
same-all f g (j ∷ keys) same = cc (same j, same-all f g keys same)

tracks-on : (plan : Plan) (n : ℕ) (m : Mark) (ps : List Packet) (keys : List ℕ) → IsPlan plan → Front plan n m ps
    → let k = head_chunk_of (chunk_at plan m) in noted_by k (key_of k.block) (map (last_sync plan ps) keys) ≡ map (last_sync plan (ps ++ (part_at plan m).packets)) keys
tracks-on plan n m ps keys is front =
    let k = head_chunk_of (chunk_at plan m) in
    noted-by k k.block (last_point plan ps) keys
    ∙ same-all (λ j. or_else (track_point j k k.block) (last_point plan ps j)) (last_point plan (ps ++ (part_at plan m).packets)) keys
    (λ j. sym (point-on plan n m ps j is front))

-- an entry that is read on by the head behind it
pub entry-on : (plan : Plan) (e e' : Entry) (k : HeadChunk) → IsPlan plan → IsEntry plan e → k ≡ head_chunk_of (chunk_at plan e.mark) → k.ending ≡ None
    → e'.blocks ≡ e.blocks + 1 → e'.mark ≡ k.to → e'.tracks.items ≡ noted_by k (key_of k.block) e.tracks.items → IsEntry plan e'
entry-on plan e e' k is entry head goes blocks at tracks =
    let h = head_chunk_of (chunk_at plan e.mark) in
    let goes' : (part_at plan e.mark).ending ≡ None = sym (ap (λ (x : HeadChunk). x.ending) head) ∙ goes in
    let at' : (part_at plan e.mark).to ≡ e'.mark = sym (ap (λ (x : HeadChunk). x.to) head) ∙ sym at in
    let on : Front plan (e.blocks + 1) (part_at plan e.mark).to (entry.packets ++ (part_at plan e.mark).packets) = read_on e.blocks e.mark entry.packets entry.read goes' in
    let moved : Front plan (e.blocks + 1) e'.mark (entry.packets ++ (part_at plan e.mark).packets) =
    subst (λ (m : Mark). Front plan (e.blocks + 1) m (entry.packets ++ (part_at plan e.mark).packets)) at' on in
    record {
      packets = entry.packets ++ (part_at plan e.mark).packets;
      read = subst (λ n. Front plan n e'.mark (entry.packets ++ (part_at plan e.mark).packets)) (sym blocks) moved;
      tracks = tracks ∙ ap (λ (x : HeadChunk). noted_by x (key_of x.block) e.tracks.items) head ∙ ap (noted_by h (key_of h.block)) entry.tracks
          ∙ tracks-on plan e.blocks e.mark entry.packets (leads_of plan.tracks) is entry.read;
    }

pub entry-copied : (plan : Plan) (e e' : Entry) → IsEntry plan e → e'.blocks ≡ e.blocks → e'.mark ≡ e.mark → e'.tracks.items ≡ e.tracks.items → IsEntry plan e'
entry-copied plan e e' entry blocks at tracks = record {
  packets = entry.packets;
  read = subst (λ n. Front plan n e'.mark entry.packets) (sym blocks) (subst (λ (m : Mark). Front plan e.blocks m entry.packets) (sym at) entry.read);
  tracks = tracks ∙ entry.tracks;
}
