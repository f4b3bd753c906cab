-- The first worked film is one, and it is regular.
use Rattle.std.proofs.Common.{ℕ, ◌<◌, ◌==◌, pos, arith, refl, lit<, subst, sym, inl, inr}
use Rattle.std.specs.Prelude.{◌<ℤ◌}
use Rattle.std.proofs.lemmas.Int.{ints}
use Rattle.std.proofs.lemmas.Bool.{or_cases, eqb-true}
use Rattle.mc_packet.specs.declared.walk.Ending.TheVariants.{Clean}
use Rattle.mc_journal.specs.Films.{rank, syncs, TimesRise, IsFilm, IsRegular}
use Rattle.mc_journal.specs.Legal.{IsLegal}
use Rattle.mc_journal.specs.WorkedFilms.{one, one_packets, one_known}
use Rattle.mc_journal.specs.Worked.{usual, drained}
use Rattle.mc_journal.proofs.Laws.{allowed-legal, used-allowed}
use Rattle.mc_journal.proofs.Worked.{drained-used}

pub one_film : IsFilm one_packets
unfolding rank
one_film = record { rising = search arith; lanes = ((lit< tt, λ y. refl), ((lit< tt, λ y. refl), ((lit< tt, λ y. refl), ((lit< tt, λ y. refl), ((lit< tt, λ y. refl), ((lit< tt, λ y. refl), ((lit< tt, λ y. refl), ((lit< tt, λ y. refl), ((lit< tt, λ y. refl), ((lit< tt, λ y. refl), ((lit< tt, λ y. refl), ((lit< tt, λ y. refl), ((lit< tt, λ y. refl), ((lit< tt, λ y. refl), ((lit< tt, λ y. refl), ((lit< tt, λ y. refl), ((lit< tt, λ y. refl), ((lit< tt, λ y. refl), tt)))))))))))))))))) }

lt_pos : (m n : ℕ) → m < n → pos m <ℤ pos n
lt_pos m n h = grind (arith, ints)

video_rises : TimesRise (syncs 1 one_packets)
video_rises = ((lt_pos 0 120000000 (lit< tt), (lt_pos 0 240000000 (lit< tt), tt)), ((lt_pos 120000000 240000000 (lit< tt), tt), (tt, tt)))

audio_rises : TimesRise (syncs 2 one_packets)
audio_rises = ((lt_pos 0 30000000 (lit< tt), (lt_pos 0 60000000 (lit< tt), (lt_pos 0 90000000 (lit< tt), (lt_pos 0 120000000 (lit< tt), (lt_pos 0 150000000 (lit< tt), (lt_pos 0 180000000 (lit< tt), (lt_pos 0 210000000 (lit< tt), (lt_pos 0 240000000 (lit< tt), (lt_pos 0 270000000 (lit< tt), tt))))))))), ((lt_pos 30000000 60000000 (lit< tt), (lt_pos 30000000 90000000 (lit< tt), (lt_pos 30000000 120000000 (lit< tt), (lt_pos 30000000 150000000 (lit< tt), (lt_pos 30000000 180000000 (lit< tt), (lt_pos 30000000 210000000 (lit< tt), (lt_pos 30000000 240000000 (lit< tt), (lt_pos 30000000 270000000 (lit< tt), tt)))))))), ((lt_pos 60000000 90000000 (lit< tt), (lt_pos 60000000 120000000 (lit< tt), (lt_pos 60000000 150000000 (lit< tt), (lt_pos 60000000 180000000 (lit< tt), (lt_pos 60000000 210000000 (lit< tt), (lt_pos 60000000 240000000 (lit< tt), (lt_pos 60000000 270000000 (lit< tt), tt))))))), ((lt_pos 90000000 120000000 (lit< tt), (lt_pos 90000000 150000000 (lit< tt), (lt_pos 90000000 180000000 (lit< tt), (lt_pos 90000000 210000000 (lit< tt), (lt_pos 90000000 240000000 (lit< tt), (lt_pos 90000000 270000000 (lit< tt), tt)))))), ((lt_pos 120000000 150000000 (lit< tt), (lt_pos 120000000 180000000 (lit< tt), (lt_pos 120000000 210000000 (lit< tt), (lt_pos 120000000 240000000 (lit< tt), (lt_pos 120000000 270000000 (lit< tt), tt))))), ((lt_pos 150000000 180000000 (lit< tt), (lt_pos 150000000 210000000 (lit< tt), (lt_pos 150000000 240000000 (lit< tt), (lt_pos 150000000 270000000 (lit< tt), tt)))), ((lt_pos 180000000 210000000 (lit< tt), (lt_pos 180000000 240000000 (lit< tt), (lt_pos 180000000 270000000 (lit< tt), tt))), ((lt_pos 210000000 240000000 (lit< tt), (lt_pos 210000000 270000000 (lit< tt), tt)), ((lt_pos 240000000 270000000 (lit< tt), tt), (tt, tt))))))))))

pub one_regular : IsRegular one_packets one_known
one_regular track listed = elim (or_cases (track == 1) (track == 2) listed) [
  | inl y ↦ subst (λ k. TimesRise (syncs k one_packets)) (sym (eqb-true track 1 y)) video_rises
  | inr z ↦ subst (λ k. TimesRise (syncs k one_packets)) (sym (eqb-true track 2 z)) audio_rises
]

pub drained-legal : IsLegal one_packets Clean drained
drained-legal = allowed-legal one drained one_film one_regular (used-allowed one usual drained drained-used)
