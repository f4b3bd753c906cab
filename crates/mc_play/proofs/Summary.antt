-- What a drain gives of a generated film is what the film has.
use Rattle.std.proofs.Common.{◌≡◌, ℕ, zero, suc, ◌+◌, ◌*◌, ◌<◌, ◌≤◌, ◌^◌, Bool, true, false, List, [], ◌∷◌, ◌++◌, length, map, None, Result, Ok, Err, refl, sym, ap, subst, ◌∙◌, inl, inr, arith, ℤ, cond}
use Rattle.std.specs.Prelude.{◌==◌, ◌||◌, ◌&&◌, not, pos, ◌<ℤ◌, ◌≤ℤ◌, sum_by}
use Rattle.std.specs.List.{AllByRecursion, flat_map, list_any, range_with_len}
use Rattle.std.proofs.lemmas.Bool.{cases_Bool}
use Rattle.std.proofs.lemmas.Int.{ints}
use Rattle.std.proofs.lemmas.List.FromFn.{length-map-range_with_len}
use Rattle.std.proofs.lemmas.List.Sums.{sum_by-cons}
use Rattle.mc_packet.specs.declared.choice.Choice.{Choice}
use Rattle.mc_packet.specs.declared.packet.Packet.{Packet}
use Rattle.mc_packet.specs.Contents.{Content, content, contents}
use Rattle.mc_tracks.specs.declared.refused.Refused.{Refused}
use Rattle.mc_tracks.specs.TrackList.{default_choice_of}
use Rattle.mc_tracks.specs.Selection.{knows}
use Rattle.mc_walk.specs.declared.plan.Plan.{Plan}
use Rattle.mc_walk.specs.Opening.{opened_film}
use Rattle.mc_film.specs.declared.whole.WholeFilm.{WholeFilm}
use Rattle.mc_film.specs.Film.{film_of, whole}
use Rattle.mc_filmed.specs.Films.{choice_for, film_for, plan_packets}
use Rattle.mc_gen.specs.Made.{made_tracks}
use Rattle.mc_gen.specs.Generated.{GeneratedReadBack, IsGenerated, generated, generated_packets, picture, picture_octet, picture_size, shown, sound}
use Rattle.mc_gen.specs.Summary.{sums_of}
use Rattle.mc_journal.specs.declared.record.DemuxRecord.{DemuxRecord}
use Rattle.mc_journal.specs.declared.record.DemuxRecord.TheVariants.{Opened}
use Rattle.mc_journal.specs.Drives.{Readings, readings}
use Rattle.mc_journal.specs.Films.{IsRegular, TimesRise, syncs}
use Rattle.mc_journal.specs.Told.{told}
use Rattle.std.specs.Result.{is_err}
use Rattle.mc_lines.specs.declared.halt.Halt.{Halt}
use Rattle.mc_play.specs.Asked.{drain_alone}
use Rattle.mc_play.specs.Completing.{PlayedOut}
use Rattle.mc_play.specs.Run.{is_starved}
use Rattle.mc_play.specs.Summing.{Drained, all_given, sums_in}
use Rattle.mc_play.proofs.Completing.{ended_out}
use Rattle.mc_play.proofs.Drained.{are_plain, given_whole, start, two}
use Rattle.mc_play.proofs.Sums.{alike, content_len, is_strange, only, only_told, same_number, told_sums}

-- ---- sync points in order

-- packets from a time on, whose times rise
record Rises (from : ℕ) (qs : List Packet) : Type 0 where
  times : TimesRise qs
  all : AllByRecursion (λ (q : Packet). pos from ≤ℤ q.time) qs

later : (a b : ℕ) (t : ℤ) → a < b → pos b ≤ℤ t → pos a <ℤ t
later a b t lt le = grind (arith, ints)

at_least : (a : ℕ) (t : ℤ) → pos a <ℤ t → pos a ≤ℤ t
at_least a t lt = grind (arith, ints)

reaches : (a : ℕ) (t : ℤ) → t ≡ pos a → pos a ≤ℤ t
reaches a t is = grind (arith, ints)

all_later : (a b : ℕ) (t : ℤ) (qs : List Packet) → t ≡ pos a → a < b → AllByRecursion (λ (q : Packet). pos b ≤ℤ q.time) qs → AllByRecursion (λ (q : Packet). t <ℤ q.time) qs
all_later a b t [] is lt all = tt
all_later a b t (q ∷ qs) is lt all = (rw is (later a b q.time lt all.0), all_later a b t qs is lt all.1)

all_from : (a b : ℕ) (qs : List Packet) → a < b → AllByRecursion (λ (q : Packet). pos b ≤ℤ q.time) qs → AllByRecursion (λ (q : Packet). pos a ≤ℤ q.time) qs
all_from a b [] lt all = tt
all_from a b (q ∷ qs) lt all = (at_least a q.time (later a b q.time lt all.0), all_from a b qs lt all.1)

-- one before them, or none
before : (a b : ℕ) (test : Bool) (p : Packet) (qs : List Packet) → p.time ≡ pos a → a < b → Rises b qs → Rises a (cond test (p ∷ qs) qs)
before a b true p qs is lt r = record { times = (all_later a b p.time qs is lt r.all, r.times); all = (reaches a p.time is, all_from a b qs lt r.all) }
before a b false p qs is lt r = record { times = r.times; all = all_from a b qs lt r.all }

-- the packets of a picture, and those behind it
record Three (a c : ℕ) (p s l : Packet) (ps : List Packet) : Type 0 where
  picture_is : content p ≡ picture a
  sound_is : content s ≡ sound a (40000000 * a)
  later_is : content l ≡ sound a (40000000 * a + 20000000)
  behind : contents ps ≡ flat_map shown (range_with_len (a + 1) c)

three : (a c : ℕ) (p s l : Packet) (ps : List Packet) → contents (p ∷ s ∷ l ∷ ps) ≡ flat_map shown (range_with_len a (suc c)) → Three a c p s l ps
three a c p s l ps e = record { picture_is = cc; sound_is = cc; later_is = cc; behind = cc }

not_one : (track : ℕ) → (1 == track) ≡ true → (2 == track) ≡ false
not_one track e = let s : 1 ≡ track = same_number 1 track e in rw (sym s) refl

rises : (track a c : ℕ) (ps : List Packet) → contents ps ≡ flat_map shown (range_with_len a c) → Rises (40000000 * a) (syncs track ps)
rises track a zero [] e = record { times = tt; all = tt }
rises track a zero (p ∷ ps) e = absurd (cc)
rises track a (suc c) [] e = absurd (cc)
rises track a (suc c) (p ∷ []) e = absurd (cc)
rises track a (suc c) (p ∷ s ∷ []) e = absurd (cc)
rises track a (suc c) (p ∷ s ∷ l ∷ ps) e =
    let t = three a c p s l ps e in
    let now : ℕ = 40000000 * a in
    let next : ℕ = 40000000 * (a + 1) in
    let qs : List Packet = syncs track ps in
    let rest : Rises next qs = rises track (a + 1) c ps t.behind in
    let p_track : p.track ≡ 1 = ap (λ (c : Content). c.track) t.picture_is in
    let s_track : s.track ≡ 2 = ap (λ (c : Content). c.track) t.sound_is in
    let l_track : l.track ≡ 2 = ap (λ (c : Content). c.track) t.later_is in
    let p_time : p.time ≡ pos now = ap (λ (c : Content). c.time) t.picture_is in
    let s_time : s.time ≡ pos now = ap (λ (c : Content). c.time) t.sound_is in
    let l_time : l.time ≡ pos (now + 20000000) = ap (λ (c : Content). c.time) t.later_is in
    elim (cases_Bool (1 == track)) [
      | inl y ↦
          let s_not : (s.track == track) ≡ false = rw s_track (not_one track y) in
          let l_not : (l.track == track) ≡ false = rw l_track (not_one track y) in
          rw (s_not, l_not) (before now next (p.track == track && p.sync) p qs p_time (omega arith) rest)
      | inr o ↦
          let p_not : (p.track == track) ≡ false = rw p_track o in
          let behind : Rises (now + 20000000) (cond (l.track == track && l.sync) (l ∷ qs) qs) = before (now + 20000000) next (l.track == track && l.sync) l qs l_time (omega arith) rest in
          rw p_not (before now (now + 20000000) (s.track == track && s.sync) s (cond (l.track == track && l.sync) (l ∷ qs) qs) s_time (omega arith) behind)
    ]

-- ---- the film that is opened

whole_is : (octets : List ℕ) (plan : Plan) → opened_film octets ≡ Ok plan → film_of octets ≡ Ok (whole plan)
unfolding film_of
whole_is octets plan e = rw e refl

one_film : (r : Result WholeFilm Refused) (f g : WholeFilm) → r ≡ Ok f → r ≡ Ok g → f ≡ g
one_film r f g e h = cc

is_generated : (n : ℕ) (plan : Plan) → n ≤ 200000 → GeneratedReadBack → opened_film (generated n) ≡ Ok plan → IsGenerated n (whole plan)
is_generated n plan few law opened =
    let read = law n few in
    subst (λ (f : WholeFilm). IsGenerated n f) (one_film (film_of (generated n)) read.0 (whole plan) read.1 (whole_is (generated n) plan opened)) read.2

both_chosen : default_choice_of made_tracks ≡ two
unfolding default_choice_of
both_chosen = refl

-- ---- its packets

abbrev is_odd_content : Content → Bool
is_odd_content c = not (c.track == 1 || c.track == 2)

odd_told : (ps : List Packet) → list_any is_strange (map told ps) ≡ list_any is_odd_content (contents ps)
odd_told [] = refl
odd_told (p ∷ ps) = ap (λ (b : Bool). is_odd_content (content p) || b) (odd_told ps)

none_odd : (a c : ℕ) → list_any is_odd_content (flat_map shown (range_with_len a c)) ≡ false
none_odd a zero = refl
none_odd a (suc c) = none_odd (a + 1) c

how_many : (a c : ℕ) → length (flat_map shown (range_with_len a c)) ≡ 3 * c
how_many a zero = refl
how_many a (suc c) = omega (arith, how_many (a + 1) c)

how_large : (a c : ℕ) → sum_by content_len (flat_map shown (range_with_len a c)) ≤ 47 * c
how_large a zero = omega arith
how_large a (suc c) =
    let p : Content = picture a in
    let s : Content = sound a (40000000 * a) in
    let l : Content = sound a (40000000 * a + 20000000) in
    let rest : List Content = flat_map shown (range_with_len (a + 1) c) in
    omega (
      arith,
      how_large (a + 1) c,
      length-map-range_with_len (picture_octet a) 0 (picture_size a),
      sum_by-cons content_len p (s ∷ l ∷ rest),
      sum_by-cons content_len s (l ∷ rest),
      sum_by-cons content_len l rest,
    )

-- ---- what is counted

pub all_counted : (n : ℕ) (hd : List DemuxRecord) → n ≤ 200000 → GeneratedReadBack → Drained (generated n) (Ok tt) hd → list_any is_starved hd ≡ false → sums_in hd ≡ sums_of (generated_packets n)
unfolding sums_in
all_counted n hd few law d starved =
    let plan : Plan = d.plan in
    let is : IsGenerated n (whole plan) = is_generated n plan few law d.opened in
    let ps : List Packet = plan_packets plan in
    let packets : contents ps ≡ generated_packets n = is.packets in
    let chosen : default_choice_of plan.tracks ≡ two = ap default_choice_of is.listed ∙ both_chosen in
    let rd : Readings = readings (film_for plan) d.limits (choice_for plan.tracks) in
    let regular : IsRegular ps (knows plan.tracks) = λ track listed. (rises track 0 n ps packets).times in
    let legal = d.plays.legal regular in
    let out : PlayedOut rd drain_alone None start hd
    = subst (λ (set : Choice). PlayedOut rd drain_alone None (Opened 0 set ∷ []) hd) chosen
    (ended_out (film_for plan) d.limits rd drain_alone (Opened 0 (default_choice_of plan.tracks) ∷ []) hd d.plays.used d.plays.runs d.unfailed starved) in
    let left = out.1.0 in
    let part : List DemuxRecord = left.part in
    let grown : hd ≡ start ++ part = out.2 ∙ left.grows in
    let plain = are_plain rd [] part left.each in
    let ends = out.1.1 in
    let all : all_given hd ≡ all_given part = ap all_given grown in
    let one : only 1 (all_given hd) ≡ only 1 (map told ps) = given_whole ps (film_for plan).ending 2 1 part hd refl grown plain.0 legal ends.0 ∙ sym (only_told 1 ps) in
    let other : only 2 (all_given hd) ≡ only 2 (map told ps) = given_whole ps (film_for plan).ending 3 2 part hd refl grown plain.0 legal ends.1 ∙ sym (only_told 2 ps) in
    let known : list_any is_strange (all_given hd) ≡ false = ap (list_any is_strange) all ∙ plain.1 in
    let known' : list_any is_strange (map told ps) ≡ false = odd_told ps ∙ ap (list_any is_odd_content) packets ∙ none_odd 0 n in
    let count : length (contents ps) < 2 ^ 64 = omega (arith, ap length packets, how_many 0 n) in
    let size : sum_by content_len (contents ps) < 2 ^ 64 = omega (arith, ap (sum_by content_len) packets, how_large 0 n) in
    alike (all_given hd) (map told ps) known known' one other ∙ told_sums ps count size ∙ ap sums_of packets

no_halt : (halt : Result Unit Halt) → is_err halt ≡ false → halt ≡ Ok tt
no_halt (Ok tt) e = refl
no_halt (Err h) e = absurd (let f : true ≡ false = e in cc)

-- so it is of octets that are the film, where nothing halted the reading
pub film_counted : (n : ℕ) (octets : List ℕ) (halt : Result Unit Halt) (hd : List DemuxRecord) → n ≤ 200000 → GeneratedReadBack → octets ≡ generated n → Drained octets halt hd → is_err halt ≡ false → list_any is_starved hd ≡ false
    → sums_in hd ≡ sums_of (generated_packets n)
film_counted n octets halt hd few law is d went starved =
    let here : Drained (generated n) halt hd = subst (λ (o : List ℕ). Drained o halt hd) is d in
    all_counted n hd few law (subst (λ (h : Result Unit Halt). Drained (generated n) h hd) (no_halt halt went) here) starved
