-- An index that stands for a film, new and read on, and the places that it knows.
use Rattle.std.proofs.Common.{◌≡◌, ℕ, Bool, true, false, List, [], ◌∷◌, map, Option, Some, None, ℤ, refl, sym, ap, subst, ◌∙◌}
use Rattle.std.proofs.lemmas.Bool.{eqb-true}
use Rattle.std.specs.Prelude.{◌==◌, find, if◌then◌else◌}
use Rattle.mc_packet.specs.declared.packet.Packet.{Packet}
use Rattle.mc_packet.specs.declared.walk.Mark.{Mark}
use Rattle.mc_tracks.specs.declared.track.Track.{Track}
use Rattle.mc_walk.specs.declared.plan.Plan.{Plan}
use Rattle.mc_walk.specs.Parts.{opening_mark}
use Rattle.mc_index.specs.declared.entry.LastSync.{LastSync}
use Rattle.mc_index.specs.declared.entry.Entry.{Entry}
use Rattle.mc_index.specs.declared.search.Since.{Since}
use Rattle.mc_index.specs.Entries.{unread, is_upto}
use Rattle.mc_index.specs.Fronts.{Front, leads_of}
use Rattle.mc_index.specs.Fronts.Front.{at_opening}
use Rattle.mc_index.specs.Scans.{last_sync, IsEntry}
use Rattle.mc_index.specs.Searches.{since_of, since_in, IsSince}

-- nothing is read yet
pub entry-opens : (plan : Plan) (tracks : List Track) (e : Entry) → plan.tracks ≡ tracks → e.blocks ≡ 0 → e.mark ≡ opening_mark
    → e.tracks.items ≡ map unread (leads_of tracks) → IsEntry plan e
entry-opens plan tracks e of blocks at is = record {
  packets = [];
  read = subst (λ n. Front plan n e.mark []) (sym blocks) (subst (λ (m : Mark). Front plan 0 m []) (sym at) at_opening);
  tracks = is ∙ ap (λ (ts : List Track). map unread (leads_of ts)) (sym of);
}

-- ---- a track's last sync point

same-track : (plan : Plan) (ps : List Packet) (track j : ℕ) (l : LastSync) → (b : Bool) → (j == track) ≡ b → (rest : Option LastSync)
    → (rest ≡ Some l → l ≡ last_sync plan ps track) → (if b then Some (last_sync plan ps j) else rest) ≡ Some l → l ≡ last_sync plan ps track
same-track plan ps track j l true same rest on is =
    let e : j ≡ track = eqb-true j track same in let k : last_sync plan ps j ≡ l = cc is in sym k ∙ ap (last_sync plan ps) e
same-track plan ps track j l false same rest on is = on is

found-sync : (plan : Plan) (ps : List Packet) (track : ℕ) (keys : List ℕ) (l : LastSync)
    → find (λ (k : LastSync). k.track == track) (map (last_sync plan ps) keys) ≡ Some l → l ≡ last_sync plan ps track
found-sync plan ps track [] l is = absurd (cc is)
found-sync plan ps track (j ∷ keys) l is =
    same-track plan ps track j l (j == track) refl (find (λ (k : LastSync). k.track == track) (map (last_sync plan ps) keys)) (found-sync plan ps track keys l) is

since-by : (plan : Plan) (track : ℕ) (t : ℤ) (n : ℕ) (m : Mark) (ps : List Packet) (l : LastSync) (s : Since) → Front plan n m ps → l ≡ last_sync plan ps track
    → (b : Bool) → is_upto t l.point ≡ b → let at : Since = record { mark = m; before = l.point } in (if b then Some at else None) ≡ Some s → IsSince plan track t s
since-by plan track t n m ps l s front last true upto is =
    let same : (let at : Since = record { mark = m; before = l.point } in at) ≡ s = cc is in
    subst (IsSince plan track t) same (record { blocks = n; packets = ps; read = front; before = ap (λ (k : LastSync). k.point) last; upto = upto })
since-by plan track t n m ps l s front last false upto is = absurd (cc is)

since-of : (plan : Plan) (track : ℕ) (t : ℤ) (n : ℕ) (m : Mark) (ps : List Packet) (found : Option LastSync) (s : Since) → Front plan n m ps
    → ((l : LastSync) → found ≡ Some l → l ≡ last_sync plan ps track) → since_of t m found ≡ Some s → IsSince plan track t s
since-of plan track t n m ps None s front last is = absurd (cc is)
since-of plan track t n m ps (Some l) s front last is = since-by plan track t n m ps l s front (last l refl) (is_upto t l.point) refl is

-- where an entry tells of a track, the film was read up to its mark, and so on
pub since-is : (plan : Plan) (track : ℕ) (t : ℤ) (e : Entry) (s : Since) → IsEntry plan e → since_in track t e ≡ Some s → IsSince plan track t s
since-is plan track t e s entry is =
    let found : (l : LastSync) → find (λ (k : LastSync). k.track == track) e.tracks.items ≡ Some l → l ≡ last_sync plan entry.packets track =
    λ l has. found-sync plan entry.packets track (leads_of plan.tracks) l (sym (ap (find (λ (k : LastSync). k.track == track)) entry.tracks) ∙ has) in
    since-of plan track t e.blocks e.mark entry.packets (find (λ (k : LastSync). k.track == track) e.tracks.items) s entry.read found is

-- the opening tells nothing of any track
pub since-opening : (plan : Plan) (track : ℕ) (t : ℤ) (s : Since) → s.mark ≡ opening_mark → s.before ≡ None → IsSince plan track t s
since-opening plan track t s at none = record {
  blocks = 0;
  packets = [];
  read = subst (λ (m : Mark). Front plan 0 m []) (sym at) at_opening;
  before = none;
  upto = ap (is_upto t) none;
}
