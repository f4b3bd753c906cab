-- The worked journals are used: each record's conditions are computed.
use Rattle.std.proofs.Common.{◌≡◌, ap, sym, ◌∙◌, Option, ℕ, true, false, ◌<◌, ◌∷◌, Some, None, arith, refl, lit≤, lit<}
use Rattle.std.specs.List.{AllByRecursion}
use Rattle.std.specs.Option.{option_map_or}
use Rattle.mc_packet.specs.declared.choice.Choice.{Choice}
use Rattle.mc_journal.specs.Told.{Told, told}
use Rattle.mc_journal.specs.declared.record.Sought.TheVariants.{Cached, Sent}
use Rattle.mc_journal.specs.Films.{rank, first_lane}
use Rattle.mc_journal.specs.Views.{is_idle}
use Rattle.mc_journal.specs.Used.{IsUsed, AreNext, onto}
use Rattle.mc_journal.proofs.Appending.{used-onto}
use Rattle.mc_journal.specs.WorkedFilms.{one, two, one_packets, two_packets, opening, c0, a93, a100, v200}
use Rattle.mc_journal.specs.Worked.{added_twice, before_the_start, begins_again, drain_0, drain_1, drain_2, drain_end, drained, drained_forward, drained_twice, dropped, dropping, ends_early, failed_read, fails, filling, first_seven, forward_at, forward_exact, forward_past, forward_sent, forward_to_last, from_keyframe, joined, joins, meets_second, none_behind, one_ahead, other_audio, overfull, past_the_end, read, reads_0, reads_1, refusals, refused, repeated, second_range, sent, sent_again, sent_seek, skips, start, switched, switches, third_track, too_early, too_late, two_ranges, switched_to_same, unjoined, usual, waited}

one_before : AllByRecursion (λ p. p.pos.block < 228) one_packets
one_before = (lit< tt, (lit< tt, (lit< tt, (lit< tt, (lit< tt, (lit< tt, (lit< tt, (lit< tt, (lit< tt, (lit< tt, (lit< tt, (lit< tt, (lit< tt, (lit< tt, (lit< tt, (lit< tt, (lit< tt, (lit< tt, tt))))))))))))))))))

two_before : AllByRecursion (λ p. p.pos.block < 176) two_packets
two_before = (lit< tt, (lit< tt, (lit< tt, (lit< tt, (lit< tt, (lit< tt, (lit< tt, (lit< tt, (lit< tt, (lit< tt, tt))))))))))

-- ---- selections that differ

abbrev number_or : Option ℕ → ℕ
number_or o = option_map_or (λ n. n) o 0

three_is_not_two : ◌≡◌ {A = ℕ} 3 2 → ⊥
three_is_not_two e = omega arith

none_is_not_one : ◌≡◌ {A = ℕ} 0 1 → ⊥
none_is_not_one e = omega arith

audio_differs : (a b : Choice) → number_or a.audio ≡ 3 → number_or b.audio ≡ 2 → a ≡ b → ⊥
audio_differs a b x y e = three_is_not_two (sym x ∙ (ap (λ (s : Choice). number_or s.audio) e ∙ y))

video_differs : (a b : Choice) → number_or a.video ≡ 0 → number_or b.video ≡ 1 → a ≡ b → ⊥
video_differs a b x y e = none_is_not_one (sym x ∙ (ap (λ (s : Choice). number_or s.video) e ∙ y))

-- ---- drain

started_drained : IsUsed one usual start
started_drained = (((refl, refl), refl, tt), tt)

drained-drain_0 : AreNext one usual (start) drain_0
unfolding rank first_lane
drained-drain_0 = ((record { sound = refl; here = (refl, refl); onward = lit≤ tt; ends = tt }, refl, (refl, refl)), (((refl, refl), refl, tt), ((record { sound = refl; here = (refl, refl); onward = lit≤ tt; ends = tt }, refl, (refl, refl)), (((refl, refl), refl, tt), ((record { sound = refl; here = (refl, refl); onward = lit≤ tt; ends = tt }, refl, (refl, refl)), (((refl, refl), refl, tt), ((record { sound = refl; here = (refl, refl); onward = lit≤ tt; ends = tt }, refl, (refl, refl)), (((refl, refl), refl, tt), ((record { sound = refl; here = (refl, refl); onward = lit≤ tt; ends = tt }, refl, (refl, refl)), (((refl, refl), refl, tt), ((record { sound = refl; here = (refl, refl); onward = lit≤ tt; ends = tt }, refl, (refl, refl)), (((refl, refl), refl, tt), ((record { sound = refl; here = (refl, refl); onward = lit≤ tt; ends = tt }, refl, (refl, refl)), (((refl, refl), refl, tt), tt))))))))))))))

drained-drain_1 : AreNext one usual (onto drain_0 start) drain_1
unfolding rank first_lane
drained-drain_1 = ((record { sound = refl; here = (refl, refl); onward = lit≤ tt; ends = tt }, refl, (refl, refl)), (((refl, refl), refl, tt), ((record { sound = refl; here = (refl, refl); onward = lit≤ tt; ends = tt }, refl, (refl, refl)), (((refl, refl), refl, tt), ((record { sound = refl; here = (refl, refl); onward = lit≤ tt; ends = tt }, refl, (refl, refl)), (((refl, refl), refl, tt), ((record { sound = refl; here = (refl, refl); onward = lit≤ tt; ends = tt }, refl, (refl, refl)), (((refl, refl), refl, tt), ((record { sound = refl; here = (refl, refl); onward = lit≤ tt; ends = tt }, refl, (refl, refl)), (((refl, refl), refl, tt), ((record { sound = refl; here = (refl, refl); onward = lit≤ tt; ends = tt }, refl, (refl, refl)), (((refl, refl), refl, tt), ((record { sound = refl; here = (refl, refl); onward = lit≤ tt; ends = tt }, refl, (refl, refl)), (((refl, refl), refl, tt), tt))))))))))))))

drained-drain_2 : AreNext one usual (onto drain_1 (onto drain_0 start)) drain_2
unfolding rank first_lane
drained-drain_2 = ((record { sound = refl; here = (refl, refl); onward = lit≤ tt; ends = tt }, refl, (refl, refl)), (((refl, refl), refl, tt), ((record { sound = refl; here = (refl, refl); onward = lit≤ tt; ends = tt }, refl, (refl, refl)), (((refl, refl), refl, tt), ((record { sound = refl; here = (refl, refl); onward = lit≤ tt; ends = tt }, refl, (refl, refl)), (((refl, refl), refl, tt), ((record { sound = refl; here = (refl, refl); onward = lit≤ tt; ends = tt }, refl, (refl, refl)), (((refl, refl), refl, tt), tt))))))))

drained-drain_end : AreNext one usual (onto drain_2 (onto drain_1 (onto drain_0 start))) drain_end
unfolding rank first_lane
drained-drain_end = ((record { sound = refl; here = (refl, refl); onward = lit≤ tt; ends = (refl, one_before) }, refl, (refl, refl)), (((refl, (refl, refl), refl), refl, tt), (((refl, (refl, refl), refl), refl, tt), tt)))

pub drained-used : IsUsed one usual drained
drained-used = used-onto one usual drain_end (onto drain_2 (onto drain_1 (onto drain_0 start))) (used-onto one usual drain_2 (onto drain_1 (onto drain_0 start)) (used-onto one usual drain_1 (onto drain_0 start) (used-onto one usual drain_0 start started_drained drained-drain_0) drained-drain_1) drained-drain_2) drained-drain_end

-- ---- seek 0.2, drain

started_sent : IsUsed one usual start
started_sent = (((refl, refl), refl, tt), tt)

sent-sent_seek : AreNext one usual (start) sent_seek
unfolding rank first_lane
sent-sent_seek = (((refl, (refl, refl)), refl, tt), ((record { sound = refl; some = refl; tracks = (refl, refl, refl); exact = λ regular. (refl, refl, tt); least = (lit≤ tt, lit≤ tt, tt) }, refl, λ regular. refl), tt))

sent-from_keyframe : AreNext one usual (onto sent_seek start) from_keyframe
unfolding rank first_lane
sent-from_keyframe = ((record { sound = refl; here = (refl, refl); onward = lit≤ tt; ends = tt }, refl, (refl, refl)), (((refl, refl), refl, tt), ((record { sound = refl; here = (refl, refl); onward = lit≤ tt; ends = tt }, refl, (refl, refl)), (((refl, refl), refl, tt), ((record { sound = refl; here = (refl, refl); onward = lit≤ tt; ends = tt }, refl, (refl, refl)), (((refl, refl), refl, tt), ((record { sound = refl; here = (refl, refl); onward = lit≤ tt; ends = tt }, refl, (refl, refl)), (((refl, refl), refl, tt), ((record { sound = refl; here = (refl, refl); onward = lit≤ tt; ends = tt }, refl, (refl, refl)), (((refl, refl), refl, tt), ((record { sound = refl; here = (refl, refl); onward = lit≤ tt; ends = tt }, refl, (refl, refl)), (((refl, refl), refl, tt), ((record { sound = refl; here = (refl, refl); onward = lit≤ tt; ends = tt }, refl, (refl, refl)), (((refl, refl), refl, tt), tt))))))))))))))

sent-drain_2 : AreNext one usual (onto from_keyframe (onto sent_seek start)) drain_2
unfolding rank first_lane
sent-drain_2 = ((record { sound = refl; here = (refl, refl); onward = lit≤ tt; ends = tt }, refl, (refl, refl)), (((refl, refl), refl, tt), ((record { sound = refl; here = (refl, refl); onward = lit≤ tt; ends = tt }, refl, (refl, refl)), (((refl, refl), refl, tt), ((record { sound = refl; here = (refl, refl); onward = lit≤ tt; ends = tt }, refl, (refl, refl)), (((refl, refl), refl, tt), ((record { sound = refl; here = (refl, refl); onward = lit≤ tt; ends = tt }, refl, (refl, refl)), (((refl, refl), refl, tt), tt))))))))

sent-drain_end : AreNext one usual (onto drain_2 (onto from_keyframe (onto sent_seek start))) drain_end
unfolding rank first_lane
sent-drain_end = ((record { sound = refl; here = (refl, refl); onward = lit≤ tt; ends = (refl, one_before) }, refl, (refl, refl)), (((refl, (refl, refl), refl), refl, tt), (((refl, (refl, refl), refl), refl, tt), tt)))

pub sent-used : IsUsed one usual sent
sent-used = used-onto one usual drain_end (onto drain_2 (onto from_keyframe (onto sent_seek start))) (used-onto one usual drain_2 (onto from_keyframe (onto sent_seek start)) (used-onto one usual from_keyframe (onto sent_seek start) (used-onto one usual sent_seek start started_sent sent-sent_seek) sent-from_keyframe) sent-drain_2) sent-drain_end

-- ---- demux 13, seek 0.13, show, demux, show

started_joined : IsUsed one usual start
started_joined = (((refl, refl), refl, tt), tt)

joined-reads_0 : AreNext one usual (start) reads_0
unfolding rank first_lane
joined-reads_0 = ((record { sound = refl; here = (refl, refl); onward = lit≤ tt; ends = tt }, refl, (refl, refl)), ((record { sound = refl; here = (refl, refl); onward = lit≤ tt; ends = tt }, refl, (refl, refl)), ((record { sound = refl; here = (refl, refl); onward = lit≤ tt; ends = tt }, refl, (refl, refl)), ((record { sound = refl; here = (refl, refl); onward = lit≤ tt; ends = tt }, refl, (refl, refl)), ((record { sound = refl; here = (refl, refl); onward = lit≤ tt; ends = tt }, refl, (refl, refl)), ((record { sound = refl; here = (refl, refl); onward = lit≤ tt; ends = tt }, refl, (refl, refl)), ((record { sound = refl; here = (refl, refl); onward = lit≤ tt; ends = tt }, refl, (refl, refl)), tt)))))))

joined-reads_1 : AreNext one usual (onto reads_0 start) reads_1
unfolding rank first_lane
joined-reads_1 = ((record { sound = refl; here = (refl, refl); onward = lit≤ tt; ends = tt }, refl, (refl, refl)), ((record { sound = refl; here = (refl, refl); onward = lit≤ tt; ends = tt }, refl, (refl, refl)), ((record { sound = refl; here = (refl, refl); onward = lit≤ tt; ends = tt }, refl, (refl, refl)), ((record { sound = refl; here = (refl, refl); onward = lit≤ tt; ends = tt }, refl, (refl, refl)), ((record { sound = refl; here = (refl, refl); onward = lit≤ tt; ends = tt }, refl, (refl, refl)), ((record { sound = refl; here = (refl, refl); onward = lit≤ tt; ends = tt }, refl, (refl, refl)), tt))))))

joined-joins : AreNext one usual (onto reads_1 (onto reads_0 start)) joins
unfolding rank first_lane
joined-joins = (((refl, (refl, refl)), refl, tt), ((tt, refl, refl), ((record { sound = refl; some = refl; tracks = (refl, refl, refl); exact = λ regular. (refl, refl, tt); least = (lit≤ tt, lit≤ tt, tt) }, refl, λ regular. refl), ((refl, refl, tt), ((tt, refl, refl), tt)))))

pub joined-used : IsUsed one usual joined
joined-used = used-onto one usual joins (onto reads_1 (onto reads_0 start)) (used-onto one usual reads_1 (onto reads_0 start) (used-onto one usual reads_0 start started_joined joined-reads_0) joined-reads_1) joined-joins

-- ---- drain, seek 1, drain

drained_twice-past_the_end : AreNext one usual (drained) past_the_end
unfolding rank first_lane
drained_twice-past_the_end = (((refl, (refl, refl)), refl, tt), (((refl, refl), refl, tt), (((refl, refl), refl, tt), (((refl, refl), refl, tt), (((refl, refl), refl, tt), (((refl, (refl, refl), refl), refl, tt), (((refl, (refl, refl), refl), refl, tt), tt)))))))

pub drained_twice-used : IsUsed one usual drained_twice
drained_twice-used = used-onto one usual past_the_end drained drained-used drained_twice-past_the_end

-- ---- drain, seek -1

pub before_the_start-used : IsUsed one usual before_the_start
unfolding rank first_lane
before_the_start-used = (((refl, (refl, refl)), refl, tt), drained-used)

-- ---- demux 7, seek 0.24, demux 6, seek 0, demux 8, show

started_two_ranges : IsUsed one usual start
started_two_ranges = (((refl, refl), refl, tt), tt)

two_ranges-reads_0 : AreNext one usual (start) reads_0
unfolding rank first_lane
two_ranges-reads_0 = ((record { sound = refl; here = (refl, refl); onward = lit≤ tt; ends = tt }, refl, (refl, refl)), ((record { sound = refl; here = (refl, refl); onward = lit≤ tt; ends = tt }, refl, (refl, refl)), ((record { sound = refl; here = (refl, refl); onward = lit≤ tt; ends = tt }, refl, (refl, refl)), ((record { sound = refl; here = (refl, refl); onward = lit≤ tt; ends = tt }, refl, (refl, refl)), ((record { sound = refl; here = (refl, refl); onward = lit≤ tt; ends = tt }, refl, (refl, refl)), ((record { sound = refl; here = (refl, refl); onward = lit≤ tt; ends = tt }, refl, (refl, refl)), ((record { sound = refl; here = (refl, refl); onward = lit≤ tt; ends = tt }, refl, (refl, refl)), tt)))))))

two_ranges-second_range : AreNext one usual (onto reads_0 start) second_range
unfolding rank first_lane
two_ranges-second_range = (((refl, (refl, refl)), refl, tt), ((record { sound = refl; some = refl; tracks = (refl, refl, refl); exact = λ regular. (refl, refl, tt); least = (lit≤ tt, lit≤ tt, tt) }, refl, λ regular. refl), ((record { sound = refl; here = (refl, refl); onward = lit≤ tt; ends = tt }, refl, (refl, refl)), ((record { sound = refl; here = (refl, refl); onward = lit≤ tt; ends = tt }, refl, (refl, refl)), ((record { sound = refl; here = (refl, refl); onward = lit≤ tt; ends = tt }, refl, (refl, refl)), ((record { sound = refl; here = (refl, refl); onward = lit≤ tt; ends = tt }, refl, (refl, refl)), ((record { sound = refl; here = (refl, refl); onward = lit≤ tt; ends = (refl, one_before) }, refl, (refl, refl)), (((refl, (refl, refl)), refl, tt), tt))))))))

two_ranges-meets_second : AreNext one usual (onto second_range (onto reads_0 start)) meets_second
unfolding rank first_lane
two_ranges-meets_second = ((record { sound = refl; here = (refl, refl); onward = lit≤ tt; ends = tt }, refl, (refl, refl)), ((record { sound = refl; here = (refl, refl); onward = lit≤ tt; ends = tt }, refl, (refl, refl)), ((record { sound = refl; here = (refl, refl); onward = lit≤ tt; ends = tt }, refl, (refl, refl)), ((record { sound = refl; here = (refl, refl); onward = lit≤ tt; ends = tt }, refl, (refl, refl)), ((record { sound = refl; here = (refl, refl); onward = lit≤ tt; ends = tt }, refl, (refl, refl)), ((record { sound = refl; here = (refl, refl); onward = lit≤ tt; ends = tt }, refl, (refl, refl)), ((record { sound = refl; here = (refl, refl); onward = lit≤ tt; ends = tt }, refl, (refl, refl)), ((record { sound = refl; here = (refl, refl); onward = lit≤ tt; ends = tt }, refl, (refl, refl)), ((refl, refl, tt), tt)))))))))

pub two_ranges-before : IsUsed one usual (onto meets_second (onto second_range (onto reads_0 start)))
two_ranges-before = used-onto one usual meets_second (onto second_range (onto reads_0 start)) (used-onto one usual second_range (onto reads_0 start) (used-onto one usual reads_0 start started_two_ranges two_ranges-reads_0) two_ranges-second_range) two_ranges-meets_second

-- ---- the view then

pub two_ranges-used : IsUsed one usual two_ranges
unfolding rank first_lane
two_ranges-used = ((tt, refl, refl), two_ranges-before)

-- ---- none behind

started_dropped : IsUsed one none_behind start
started_dropped = (((refl, refl), refl, tt), tt)

dropped-dropping : AreNext one none_behind (start) dropping
unfolding rank first_lane
dropped-dropping = ((record { sound = refl; here = (refl, refl); onward = lit≤ tt; ends = tt }, refl, (refl, refl)), ((record { sound = refl; here = (refl, refl); onward = lit≤ tt; ends = tt }, refl, (refl, refl)), (((refl, refl), refl, tt), ((((refl, lit≤ tt, lit≤ tt), lit≤ tt), refl, (refl, refl, lit< tt, (refl, (refl, refl)))), (((refl, refl), refl, tt), ((((refl, lit≤ tt, lit≤ tt), lit≤ tt), refl, (refl, refl, lit< tt, (refl, (refl, refl)))), (((refl, (refl, refl)), refl, tt), tt)))))))

pub dropped-used : IsUsed one none_behind dropped
dropped-used = used-onto one none_behind dropping start started_dropped dropped-dropping

-- ---- one ahead

started_overfull : IsUsed one one_ahead start
started_overfull = (((refl, refl), refl, tt), tt)

overfull-filling : AreNext one one_ahead (start) filling
unfolding rank first_lane
overfull-filling = ((record { sound = refl; here = (refl, refl); onward = lit≤ tt; ends = tt }, refl, (refl, refl)), (((refl, refl, refl), refl, (refl, refl, lit≤ tt, refl)), (((refl, refl), refl, tt), ((record { sound = refl; here = (refl, refl); onward = lit≤ tt; ends = tt }, refl, (refl, refl)), (((refl, refl), refl, tt), tt)))))

pub overfull-used : IsUsed one one_ahead overfull
overfull-used = used-onto one one_ahead filling start started_overfull overfull-filling

-- ---- a switch

started_switched : IsUsed two usual start
started_switched = (((refl, refl), refl, tt), tt)

switched-first_seven : AreNext two usual (start) first_seven
unfolding rank first_lane
switched-first_seven = ((record { sound = refl; here = (refl, refl); onward = lit≤ tt; ends = tt }, refl, (refl, refl)), ((record { sound = refl; here = (refl, refl); onward = lit≤ tt; ends = tt }, refl, (refl, refl)), ((record { sound = refl; here = (refl, refl); onward = lit≤ tt; ends = tt }, refl, (refl, refl)), ((record { sound = refl; here = (refl, refl); onward = lit≤ tt; ends = tt }, refl, (refl, refl)), ((record { sound = refl; here = (refl, refl); onward = lit≤ tt; ends = tt }, refl, (refl, refl)), ((record { sound = refl; here = (refl, refl); onward = lit≤ tt; ends = tt }, refl, (refl, refl)), ((record { sound = refl; here = (refl, refl); onward = lit≤ tt; ends = tt }, refl, (refl, refl)), tt)))))))

switched-switches : AreNext two usual (onto first_seven start) switches
unfolding rank first_lane
switched-switches = (((refl, refl), refl, tt), (((refl, refl), refl, tt), (((refl, refl), refl, tt), (((refl, refl), refl, tt), (((refl, refl, λ e. audio_differs _ _ refl refl e), refl, tt), ((tt, refl, (refl, refl, refl, refl)), ((record { sound = refl; some = refl; tracks = (refl, refl, refl); exact = λ regular. (tt, refl, tt); least = (tt, lit≤ tt, tt) }, refl, λ regular. refl), tt)))))))

switched-other_audio : AreNext two usual (onto switches (onto first_seven start)) other_audio
unfolding rank first_lane
switched-other_audio = ((record { sound = refl; here = (refl, refl); onward = lit≤ tt; ends = tt }, refl, (refl, refl)), (((refl, refl), refl, tt), ((record { sound = refl; here = (refl, refl); onward = lit≤ tt; ends = tt }, refl, (refl, refl)), ((record { sound = refl; here = (refl, refl); onward = lit≤ tt; ends = tt }, refl, (refl, refl)), (((refl, refl), refl, tt), ((record { sound = refl; here = (refl, refl); onward = lit≤ tt; ends = tt }, refl, (refl, refl)), ((record { sound = refl; here = (refl, refl); onward = lit≤ tt; ends = tt }, refl, (refl, refl)), (((refl, refl), refl, tt), ((record { sound = refl; here = (refl, refl); onward = lit≤ tt; ends = (refl, two_before) }, refl, (refl, refl)), (((refl, (refl, refl), refl), refl, tt), (((refl, (refl, refl), refl), refl, tt), tt)))))))))))

pub switched-used : IsUsed two usual switched
switched-used = used-onto two usual other_audio (onto switches (onto first_seven start)) (used-onto two usual switches (onto first_seven start) (used-onto two usual first_seven start started_switched switched-first_seven) switched-switches) switched-other_audio

-- ---- a read that fails

started_failed_read : IsUsed one usual start
started_failed_read = (((refl, refl), refl, tt), tt)

failed_read-fails : AreNext one usual (start) fails
unfolding rank first_lane
failed_read-fails = ((record { sound = refl; here = (refl, refl); onward = lit≤ tt; ends = tt }, refl, (refl, refl)), ((refl, refl, tt), (((refl, refl), refl, tt), (((refl, refl, refl), refl, ((refl, refl), refl)), tt))))

failed_read-begins_again : AreNext one usual (onto fails start) begins_again
unfolding rank first_lane
failed_read-begins_again = (((refl, (refl, refl)), refl, tt), ((record { sound = refl; some = refl; tracks = (refl, refl, refl); exact = λ regular. (refl, refl, tt); least = (lit≤ tt, lit≤ tt, tt) }, refl, λ regular. refl), ((refl, refl, tt), (((refl, refl), refl, tt), ((record { sound = refl; here = (refl, refl); onward = lit≤ tt; ends = tt }, refl, (refl, refl)), (((refl, refl), refl, tt), ((record { sound = refl; here = (refl, refl); onward = lit≤ tt; ends = tt }, refl, (refl, refl)), (((refl, refl), refl, tt), ((record { sound = refl; here = (refl, refl); onward = lit≤ tt; ends = tt }, refl, (refl, refl)), (((refl, refl), refl, tt), ((record { sound = refl; here = (refl, refl); onward = lit≤ tt; ends = tt }, refl, (refl, refl)), (((refl, refl), refl, tt), ((record { sound = refl; here = (refl, refl); onward = lit≤ tt; ends = tt }, refl, (refl, refl)), (((refl, refl), refl, tt), ((record { sound = refl; here = (refl, refl); onward = lit≤ tt; ends = tt }, refl, (refl, refl)), (((refl, refl), refl, tt), tt))))))))))))))))

failed_read-drain_1 : AreNext one usual (onto begins_again (onto fails start)) drain_1
unfolding rank first_lane
failed_read-drain_1 = ((record { sound = refl; here = (refl, refl); onward = lit≤ tt; ends = tt }, refl, (refl, refl)), (((refl, refl), refl, tt), ((record { sound = refl; here = (refl, refl); onward = lit≤ tt; ends = tt }, refl, (refl, refl)), (((refl, refl), refl, tt), ((record { sound = refl; here = (refl, refl); onward = lit≤ tt; ends = tt }, refl, (refl, refl)), (((refl, refl), refl, tt), ((record { sound = refl; here = (refl, refl); onward = lit≤ tt; ends = tt }, refl, (refl, refl)), (((refl, refl), refl, tt), ((record { sound = refl; here = (refl, refl); onward = lit≤ tt; ends = tt }, refl, (refl, refl)), (((refl, refl), refl, tt), ((record { sound = refl; here = (refl, refl); onward = lit≤ tt; ends = tt }, refl, (refl, refl)), (((refl, refl), refl, tt), ((record { sound = refl; here = (refl, refl); onward = lit≤ tt; ends = tt }, refl, (refl, refl)), (((refl, refl), refl, tt), tt))))))))))))))

failed_read-drain_2 : AreNext one usual (onto drain_1 (onto begins_again (onto fails start))) drain_2
unfolding rank first_lane
failed_read-drain_2 = ((record { sound = refl; here = (refl, refl); onward = lit≤ tt; ends = tt }, refl, (refl, refl)), (((refl, refl), refl, tt), ((record { sound = refl; here = (refl, refl); onward = lit≤ tt; ends = tt }, refl, (refl, refl)), (((refl, refl), refl, tt), ((record { sound = refl; here = (refl, refl); onward = lit≤ tt; ends = tt }, refl, (refl, refl)), (((refl, refl), refl, tt), ((record { sound = refl; here = (refl, refl); onward = lit≤ tt; ends = tt }, refl, (refl, refl)), (((refl, refl), refl, tt), tt))))))))

failed_read-drain_end : AreNext one usual (onto drain_2 (onto drain_1 (onto begins_again (onto fails start)))) drain_end
unfolding rank first_lane
failed_read-drain_end = ((record { sound = refl; here = (refl, refl); onward = lit≤ tt; ends = (refl, one_before) }, refl, (refl, refl)), (((refl, (refl, refl), refl), refl, tt), (((refl, (refl, refl), refl), refl, tt), tt)))

pub failed_read-used : IsUsed one usual failed_read
failed_read-used = used-onto one usual drain_end (onto drain_2 (onto drain_1 (onto begins_again (onto fails start)))) (used-onto one usual drain_2 (onto drain_1 (onto begins_again (onto fails start))) (used-onto one usual drain_1 (onto begins_again (onto fails start)) (used-onto one usual begins_again (onto fails start) (used-onto one usual fails start started_failed_read failed_read-fails) failed_read-begins_again) failed_read-drain_1) failed_read-drain_2) failed_read-drain_end

-- ---- refusals

started_refused : IsUsed one usual start
started_refused = (((refl, refl), refl, tt), tt)

refused-refusals : AreNext one usual (start) refusals
unfolding rank first_lane
refused-refusals = ((tt, refl, tt), (((refl, refl, λ e. video_differs _ _ refl refl e), refl, tt), ((tt, refl, refl), tt)))

pub refused-used : IsUsed one usual refused
refused-used = used-onto one usual refusals start started_refused refused-refusals

-- ---- a track that waits is added again

started_waited : IsUsed two usual start
started_waited = (((refl, refl), refl, tt), tt)

waited-added_twice : AreNext two usual (start) added_twice
unfolding rank first_lane
waited-added_twice = (((refl, refl, λ e. audio_differs _ _ refl refl e), refl, tt), (((refl, refl, λ e. video_differs _ _ refl refl e), refl, tt), ((record { sound = refl; some = refl; tracks = (refl, refl, refl); exact = λ regular. (tt, refl, tt); least = (tt, lit≤ tt, tt) }, refl, λ regular. refl), tt)))

waited-third_track : AreNext two usual (onto added_twice start) third_track
unfolding rank first_lane
waited-third_track = ((record { sound = refl; here = (refl, refl); onward = lit≤ tt; ends = tt }, refl, (refl, refl)), ((record { sound = refl; here = (refl, refl); onward = lit≤ tt; ends = tt }, refl, (refl, refl)), ((record { sound = refl; here = (refl, refl); onward = lit≤ tt; ends = tt }, refl, (refl, refl)), (((refl, refl), refl, tt), ((record { sound = refl; here = (refl, refl); onward = lit≤ tt; ends = tt }, refl, (refl, refl)), ((record { sound = refl; here = (refl, refl); onward = lit≤ tt; ends = tt }, refl, (refl, refl)), ((record { sound = refl; here = (refl, refl); onward = lit≤ tt; ends = tt }, refl, (refl, refl)), (((refl, refl), refl, tt), ((record { sound = refl; here = (refl, refl); onward = lit≤ tt; ends = tt }, refl, (refl, refl)), ((record { sound = refl; here = (refl, refl); onward = lit≤ tt; ends = tt }, refl, (refl, refl)), ((record { sound = refl; here = (refl, refl); onward = lit≤ tt; ends = tt }, refl, (refl, refl)), ((record { sound = refl; here = (refl, refl); onward = lit≤ tt; ends = tt }, refl, (refl, refl)), (((refl, refl), refl, tt), ((record { sound = refl; here = (refl, refl); onward = lit≤ tt; ends = (refl, two_before) }, refl, (refl, refl)), (((refl, (refl, refl), refl), refl, tt), tt)))))))))))))))

pub waited-used : IsUsed two usual waited
waited-used = used-onto two usual third_track (onto added_twice start) (used-onto two usual added_twice start started_waited waited-added_twice) waited-third_track

-- ---- a seek sent again

started_repeated : IsUsed one usual start
started_repeated = (((refl, refl), refl, tt), tt)

repeated-sent_again : AreNext one usual (start) sent_again
unfolding rank first_lane
repeated-sent_again = (((refl, (refl, refl)), refl, tt), (((refl, refl, λ e. video_differs _ _ refl refl e), refl, tt), (((refl, (refl, refl, refl, refl)), refl, tt), ((record { sound = refl; some = refl; tracks = (refl, refl, refl); exact = λ regular. (tt, refl, tt); least = (tt, lit≤ tt, tt) }, refl, λ regular. refl), ((record { sound = refl; here = (refl, refl); onward = lit≤ tt; ends = tt }, refl, (refl, refl)), (((refl, refl), refl, tt), tt))))))

pub repeated-used : IsUsed one usual repeated
repeated-used = used-onto one usual sent_again start started_repeated repeated-sent_again

-- ---- drain, seek 0.13 forward, drain

drained_forward-forward_past : AreNext one usual (drained) forward_past
unfolding rank first_lane
drained_forward-forward_past = (((refl, (refl, refl)), refl, tt), (((refl, refl), refl, tt), (((refl, refl), refl, tt), (((refl, refl), refl, tt), (((refl, refl), refl, tt), (((refl, (refl, refl), refl), refl, tt), (((refl, (refl, refl), refl), refl, tt), tt)))))))

pub drained_forward-used : IsUsed one usual drained_forward
drained_forward-used = used-onto one usual forward_past drained drained-used drained_forward-forward_past

-- ---- drain, seek 0.3 forward, read video

pub forward_to_last-used : IsUsed one usual forward_to_last
unfolding rank first_lane
forward_to_last-used = (((refl, refl), refl, tt), (((refl, (refl, refl)), refl, tt), drained-used))

-- ---- demux 7, seek 0.13 forward

pub forward_sent-used : IsUsed one usual forward_sent
unfolding rank first_lane
forward_sent-used = (((refl, (refl, refl)), refl, tt), used-onto one usual reads_0 start started_joined joined-reads_0)

-- ---- seek 0.24, demux 3, seek 0.24 forward

started_forward_at : IsUsed one usual start
started_forward_at = (((refl, refl), refl, tt), tt)

forward_at-forward_exact : AreNext one usual (start) forward_exact
unfolding rank first_lane
forward_at-forward_exact = (((refl, (refl, refl)), refl, tt), ((record { sound = refl; some = refl; tracks = (refl, refl, refl); exact = λ regular. (refl, refl, tt); least = (lit≤ tt, lit≤ tt, tt) }, refl, λ regular. refl), ((record { sound = refl; here = (refl, refl); onward = lit≤ tt; ends = tt }, refl, (refl, refl)), ((record { sound = refl; here = (refl, refl); onward = lit≤ tt; ends = tt }, refl, (refl, refl)), (((refl, (refl, refl)), refl, tt), tt)))))

pub forward_at-used : IsUsed one usual forward_at
forward_at-used = used-onto one usual forward_exact start started_forward_at forward_at-forward_exact

-- ---- journals that are not used

other_answer : Cached ≡ Sent → ⊥
other_answer e = cc

apart : ◌≡◌ {A = ℕ} 93 100 → ⊥
apart e = omega arith

other_packet : told a93 ≡ told a100 → ⊥
other_packet e = apart (ap (λ (t : Told). t.pos.block) e)

no_packet : Some v200 ≡ None → ⊥
no_packet e = cc

not_yet : false ≡ true → ⊥
not_yet e = cc

pub too_early-unused : IsUsed one usual too_early → ⊥
unfolding rank first_lane
too_early-unused used = other_answer used.0.0.1.1

pub too_late-unused : IsUsed one usual too_late → ⊥
unfolding rank first_lane
too_late-unused used = other_answer used.0.0.1.1

pub skips-unused : IsUsed one usual skips → ⊥
unfolding rank first_lane
skips-unused used = other_packet used.0.0.1

pub ends_early-unused : IsUsed one usual ends_early → ⊥
unfolding rank first_lane
ends_early-unused used = no_packet used.0.0.2

pub switched_to_same-unused : IsUsed one usual switched_to_same → ⊥
unfolding rank first_lane
switched_to_same-unused used = used.0.0.2 refl

pub unjoined-unused : IsUsed one usual unjoined → ⊥
unfolding rank first_lane
unjoined-unused used = not_yet used.0.1

pub idle_then : is_idle one_packets usual two_ranges ≡ true
unfolding rank first_lane
idle_then = refl

pub idle_full : is_idle one_packets one_ahead (read opening (c0 93) 1 ∷ start) ≡ true
unfolding rank first_lane
idle_full = refl

pub busy_before : is_idle one_packets usual joined ≡ false
unfolding rank first_lane
busy_before = refl
