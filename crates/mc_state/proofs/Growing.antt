-- Records that a call added: what they leave as it is.
use Rattle.std.proofs.Common.{◌≡◌, ℕ, Bool, true, List, [], ◌∷◌, ◌++◌, refl, sym, ap, ◌∙◌, reverse}
use Rattle.std.specs.List.{AllByRecursion}
use Rattle.std.proofs.lemmas.List.{append_assoc}
use Rattle.mc_dispatch.specs.declared.request.ClientNo.{ClientNo}
use Rattle.mc_ring.specs.declared.event.Event.{Event}
use Rattle.mc_player.specs.Callers.{by_of}
use Rattle.mc_player.specs.declared.record.CoreRecord.{CoreRecord}
use Rattle.mc_player.specs.declared.record.CoreRecord.TheVariants.{Wrote, Pushed}
use Rattle.mc_player.specs.Effects.{hears, pushes_to}
use Rattle.mc_player.specs.Facts.{life_of}
use Rattle.mc_player.specs.Journals.{due}
use Rattle.mc_player.specs.Lives.{Table}
use Rattle.mc_player.proofs.Hearing.{hears_pushed}
use Rattle.mc_player.proofs.Lists.{All-append, All-to}
use Rattle.mc_state.specs.Growth.{Adds, IsOf, is_news, is_push}
use Rattle.mc_state.specs.Stands.{told_by}
use Rattle.mc_state.proofs.Steps.{as_told}

pub adds_none : (test : CoreRecord → Bool) (by : ℕ) (h : List CoreRecord) → Adds test by h h
adds_none test by h = record { more = []; grows = refl; are = tt }

pub adds_one : (test : CoreRecord → Bool) (by : ℕ) (h h' : List CoreRecord) (r : CoreRecord) → h' ≡ r ∷ h → test r ≡ true → by_of r ≡ by → Adds test by h h'
adds_one test by h h' r e kind own = record { more = r ∷ []; grows = e; are = (record { kind = kind; own = own }, tt) }

pub adds_then : (test : CoreRecord → Bool) (by : ℕ) (a b c : List CoreRecord) → Adds test by a b → Adds test by b c → Adds test by a c
adds_then test by a b c x y = record {
  more = y.more ++ x.more;
  grows = y.grows ∙ ap (λ (h : List CoreRecord). y.more ++ h) x.grows ∙ sym (append_assoc y.more x.more a);
  are = All-append (IsOf test by) y.more x.more y.are x.are;
}

pub adds_as : (test wider : CoreRecord → Bool) (by : ℕ) (a b : List CoreRecord) → ((r : CoreRecord) → test r ≡ true → wider r ≡ true) → Adds test by a b → Adds wider by a b
adds_as test wider by a b imp x = record {
  more = x.more;
  grows = x.grows;
  are = All-to (IsOf test by) (IsOf wider by) (λ r p. record { kind = imp r p.kind; own = p.own }) x.more x.are;
}

pub adds_record : (test : CoreRecord → Bool) (by : ℕ) (j j' : List CoreRecord) (r : CoreRecord) → j' ≡ j ++ r ∷ [] → test r ≡ true → by_of r ≡ by → Adds test by (reverse j) (reverse j')
adds_record test by j j' r e kind own = adds_one test by (reverse j) (reverse j') r (as_told j j' r e) kind own

pub push_is_news : (r : CoreRecord) → is_push r ≡ true → is_news r ≡ true
push_is_news (Pushed by c e kept) p = refl
push_is_news r p = absurd (cc)

-- ---- a writing or a push leaves what the core holds beside its clients

news_told : (t : Table) (by : ℕ) (more h : List CoreRecord) → AllByRecursion (IsOf is_news by) more → told_by t (more ++ h) ≡ told_by t h
news_told t by [] h a = refl
news_told t by (Wrote b mask f ∷ more) h a = news_told t by more h a.1
news_told t by (Pushed b c e kept ∷ more) h a = news_told t by more h a.1
news_told t by (r ∷ more) h a = absurd (let k = (a.0).kind in cc)

news_due : (by : ℕ) (more h : List CoreRecord) → AllByRecursion (IsOf is_news by) more → due (more ++ h) ≡ due h
news_due by [] h a = refl
news_due by (Wrote b mask f ∷ more) h a = news_due by more h a.1
news_due by (Pushed b c e kept ∷ more) h a = news_due by more h a.1
news_due by (r ∷ more) h a = absurd (let k = (a.0).kind in cc)

news_hears : (t : Table) (e : Event) (c by : ℕ) (more h : List CoreRecord) → AllByRecursion (IsOf is_news by) more → hears e (life_of t c (more ++ h)) ≡ hears e (life_of t c h)
news_hears t e c by [] h a = refl
news_hears t e c by (Wrote b mask f ∷ more) h a = news_hears t e c by more h a.1
news_hears t e c by (Pushed b d x kept ∷ more) h a = hears_pushed t e x c b d kept (more ++ h) ∙ news_hears t e c by more h a.1
news_hears t e c by (r ∷ more) h a = absurd (let k = (a.0).kind in cc)

pub told_same : (t : Table) (by : ℕ) (h h' : List CoreRecord) → Adds is_news by h h' → told_by t h' ≡ told_by t h
told_same t by h h' x = ap (told_by t) x.grows ∙ news_told t by x.more h x.are

pub due_same : (by : ℕ) (h h' : List CoreRecord) → Adds is_news by h h' → due h' ≡ due h
due_same by h h' x = ap due x.grows ∙ news_due by x.more h x.are

-- ---- who hears an event

pub pushes_same : (t : Table) (e : Event) (h h' : List CoreRecord) (cs : List ClientNo) → ((c : ℕ) → hears e (life_of t c h') ≡ hears e (life_of t c h)) → pushes_to t e h' cs ≡ pushes_to t e h cs
pushes_same t e h h' [] same = refl
pushes_same t e h h' (c ∷ cs) same = rw (same c.0, pushes_same t e h h' cs same) refl

pub news_pushes : (t : Table) (e : Event) (by : ℕ) (h h' : List CoreRecord) (cs : List ClientNo) → Adds is_news by h h' → pushes_to t e h' cs ≡ pushes_to t e h cs
news_pushes t e by h h' cs x =
    ap (λ (y : List CoreRecord). pushes_to t e y cs) x.grows
    ∙ pushes_same t e h (x.more ++ h) cs (λ c. news_hears t e c by x.more h x.are)
