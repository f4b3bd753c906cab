-- The worked journals tell one story, and the wrong ones don't.
use Rattle.std.proofs.Common.{◌≡◌, ℕ, zero, suc, ℤ, pos, false, Option, Some, None, refl, ap}
use Rattle.std.specs.Prelude.{drop}
use Rattle.std.proofs.lemmas.Bool.{true≢false}
use Rattle.mc_packet.specs.declared.cache.CacheView.{CacheView}
use Rattle.mc_journal.specs.Views.{view}
use Rattle.mc_journal.specs.WorkedFilms.{one, one_packets}
use Rattle.mc_player.specs.Orders.{Loads}
use Rattle.mc_story.specs.Same.{same_story}
use Rattle.mc_story.specs.Story.{OneStory, Views}
use Rattle.mc_story.specs.Worked.{film_one, hd, hc, hc_other, hc_lied, hc_none, hc_left_out, hc_nothing, hc_back, hd_sought, hd_refused, hd_given, hd_carried_twice, hd_drivers, hd_other_set, hc_sought, hc_invented, hc_twice, view_given, view_invented, view_opened}
use Rattle.mc_journal.specs.Worked.{start}

pub one_story : OneStory 1 one film_one hd hc
one_story = record {
  asked = refl;
  learned = (8, refl, refl, (2, refl, refl, tt));
  loaded = (refl, refl, tt);
}

pub other_refused : same_story 1 hd_sought hc_other ≡ false
other_refused = refl

pub lied_refused : same_story 1 hd_refused hc_lied ≡ false
lied_refused = refl

pub none_refused : same_story 1 hd_sought hc_none ≡ false
none_refused = refl

pub left_out_refused : same_story 1 start hc_left_out ≡ false
left_out_refused = refl

pub nothing_refused : same_story 1 start hc_nothing ≡ false
nothing_refused = refl

pub uncarried_refused : same_story 1 start hc_lied ≡ false
uncarried_refused = refl

pub twice_refused : same_story 1 hd_carried_twice hc_sought ≡ false
twice_refused = refl

pub drivers_refused : same_story 1 hd_drivers hc_sought ≡ false
drivers_refused = refl

pub set_refused : same_story 1 hd_other_set hc_left_out ≡ false
set_refused = refl

-- ---- views that skip back

timed : ◌≡◌ {A = Option ℤ} (Some (pos 0)) None → ⊥
timed e = absurd (cc)

untimed : ◌≡◌ {A = Option ℤ} None (Some (pos 0)) → ⊥
untimed e = absurd (cc)

time : (v w : CacheView) → v ≡ w → v.time ≡ w.time
time v w e = ap (λ (x : CacheView). x.time) e

-- behind a front in which no packet was given yet there is none in which one was
back_by : (n k : ℕ) → view_opened ≡ view one_packets (drop n hd_given) → view_given ≡ view one_packets (drop k (drop n hd_given)) → ⊥
back_by zero k e f = untimed (time _ _ e)
back_by (suc zero) zero e f = timed (time _ _ f)
back_by (suc zero) (suc zero) e f = timed (time _ _ f)
back_by (suc zero) (suc (suc zero)) e f = timed (time _ _ f)
back_by (suc zero) (suc (suc (suc k))) e f = timed (time _ _ f)
back_by (suc (suc zero)) zero e f = timed (time _ _ f)
back_by (suc (suc zero)) (suc zero) e f = timed (time _ _ f)
back_by (suc (suc zero)) (suc (suc k)) e f = timed (time _ _ f)
back_by (suc (suc (suc zero))) zero e f = timed (time _ _ f)
back_by (suc (suc (suc zero))) (suc k) e f = timed (time _ _ f)
back_by (suc (suc (suc (suc n)))) zero e f = timed (time _ _ f)
back_by (suc (suc (suc (suc n)))) (suc k) e f = timed (time _ _ f)

pub back_refused : Views 1 one hd_given hc_back → ⊥
back_refused v = back_by v.0 v.3.0 v.1 v.3.1

-- ---- a view that was never the cache's

odd : ◌≡◌ {A = Option ℤ} (Some (pos 7)) None → ⊥
odd e = absurd (cc)

odd_given : ◌≡◌ {A = Option ℤ} (Some (pos 7)) (Some (pos 0)) → ⊥
odd_given e = absurd (cc)

never : (n : ℕ) → view_invented ≡ view one_packets (drop n hd_given) → ⊥
never zero e = odd_given (time _ _ e)
never (suc zero) e = odd (time _ _ e)
never (suc (suc zero)) e = odd (time _ _ e)
never (suc (suc (suc zero))) e = odd (time _ _ e)
never (suc (suc (suc (suc n)))) e = odd (time _ _ e)

pub view_refused : Views 1 one hd_given hc_invented → ⊥
view_refused v = never v.0 v.1

-- ---- a file that is loaded twice

pub loads_refused : Loads film_one hc_twice → ⊥
loads_refused l = absurd (true≢false l.1)
