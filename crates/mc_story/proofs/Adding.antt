-- What comes in front of one of the two journals, and leaves the other as it is.
use Rattle.std.proofs.Common.{◌≡◌, ℕ, suc, true, List, [], ◌∷◌, ◌++◌, Option, sym, subst}
use Rattle.std.specs.List.{AllByRecursion}
use Rattle.std.proofs.lemmas.Bool.{true≢false}
use Rattle.mc_journal.specs.declared.record.DemuxRecord.{DemuxRecord}
use Rattle.mc_journal.specs.Films.{Film}
use Rattle.mc_player.specs.declared.record.Order.{Order}
use Rattle.mc_player.specs.declared.record.Outcome.{Outcome}
use Rattle.mc_player.specs.declared.record.CoreRecord.{CoreRecord}
use Rattle.mc_player.specs.declared.record.CoreRecord.TheVariants.{Learned, Ordered, Did}
use Rattle.mc_player.specs.Journals.{out}
use Rattle.mc_player.specs.Orders.{Opening, ordered}
use Rattle.mc_story.specs.Same.{same}
use Rattle.mc_story.specs.Steps.{Both, is_foreign, is_inner, is_plain}
use Rattle.mc_story.specs.Story.{Views}
use Rattle.mc_story.specs.Tie.{IsTied, so_far}
use Rattle.mc_story.proofs.Asking.{same_foreign, same_front}

-- a front of a journal is a front of a longer one
pub views_more : (n : ℕ) (film : Film) (r : DemuxRecord) (h : List DemuxRecord) (hc : List CoreRecord) → Views n film h hc → Views n film (r ∷ h) hc
views_more n film r h [] v = tt
views_more n film r h (Learned by view ∷ hc) v = (suc v.0, v.1, v.2, v.3)
views_more n film r h (x ∷ hc) v = views_more n film r h hc v

pub views_front : (n : ℕ) (film : Film) (rs h : List DemuxRecord) (hc : List CoreRecord) → Views n film h hc → Views n film (rs ++ h) hc
views_front n film [] h hc v = v
views_front n film (r ∷ rs) h hc v = views_more n film r (rs ++ h) hc (views_front n film rs h hc v)

abbrev pub both : List DemuxRecord → List CoreRecord → Option Order → Option Outcome → Both
both hd hc o x = record { hd = hd; hc = hc; order = o; carried = x }

-- a record of the player that is neither a view, an order nor an outcome changes nothing
inner_one : (n : ℕ) (film : Film) (w : Opening) (hd : List DemuxRecord) (r : CoreRecord) (h : List CoreRecord) (o : Option Order) (x : Option Outcome)
    → is_inner r ≡ true → IsTied n film w (both hd h o x) → IsTied n film w (both hd (r ∷ h) o x)
inner_one n film w hd (Learned by v) h o x p i = absurd (true≢false (sym p))
inner_one n film w hd (Ordered by q) h o x p i = absurd (true≢false (sym p))
inner_one n film w hd (Did by y) h o x p i = absurd (true≢false (sym p))
inner_one n film w hd r h o x p i = record {
  asked = i.asked;
  learned = i.learned;
  loads = i.loads;
  order_is = i.order_is;
  carried_is = i.carried_is;
}

pub inner_front : (n : ℕ) (film : Film) (w : Opening) (hd : List DemuxRecord) (rs h : List CoreRecord) (o : Option Order) (x : Option Outcome)
    → AllByRecursion (λ r. is_inner r ≡ true) rs → IsTied n film w (both hd h o x) → IsTied n film w (both hd (rs ++ h) o x)
inner_front n film w hd [] h o x p i = i
inner_front n film w hd (r ∷ rs) h o x p i = inner_one n film w hd r (rs ++ h) o x p.0 (inner_front n film w hd rs h o x p.1 i)

-- the demuxer's journal alone changed
pub with_hd : (n : ℕ) (film : Film) (w : Opening) (hd new : List DemuxRecord) (hc : List CoreRecord) (o : Option Order) (x : Option Outcome)
    → same n new (so_far x (out hc) (ordered hc)) ≡ true → Views n film new hc → IsTied n film w (both hd hc o x) → IsTied n film w (both new hc o x)
with_hd n film w hd new hc o x s v i = record {
  asked = s;
  learned = v;
  loads = i.loads;
  order_is = i.order_is;
  carried_is = i.carried_is;
}

-- what the demuxer adds that is neither a seek, a selection nor a refusal changes nothing
pub demux_front : (n : ℕ) (film : Film) (w : Opening) (rs hd : List DemuxRecord) (hc : List CoreRecord) (o : Option Order) (x : Option Outcome)
    → AllByRecursion (λ r. is_plain r ≡ true) rs → IsTied n film w (both hd hc o x) → IsTied n film w (both (rs ++ hd) hc o x)
demux_front n film w rs hd hc o x p i =
    with_hd n film w hd (rs ++ hd) hc o x (same_front n rs hd (so_far x (out hc) (ordered hc)) p i.asked) (views_front n film rs hd hc i.learned) i

-- nor does what others called
pub foreign_front : (n : ℕ) (film : Film) (w : Opening) (rs hd : List DemuxRecord) (hc : List CoreRecord) (o : Option Order) (x : Option Outcome)
    → AllByRecursion (λ r. is_foreign n r ≡ true) rs → IsTied n film w (both hd hc o x) → IsTied n film w (both (rs ++ hd) hc o x)
foreign_front n film w rs hd hc o x p i =
    with_hd n film w hd (rs ++ hd) hc o x (same_foreign n rs hd (so_far x (out hc) (ordered hc)) p i.asked) (views_front n film rs hd hc i.learned) i

-- the state, moved along equations
pub moved : (n : ℕ) (film : Film) (w : Opening) (hd hd' : List DemuxRecord) (hc hc' : List CoreRecord) (o o' : Option Order) (x x' : Option Outcome)
    → hd' ≡ hd → hc' ≡ hc → o' ≡ o → x' ≡ x → IsTied n film w (both hd hc o x) → IsTied n film w (both hd' hc' o' x')
moved n film w hd hd' hc hc' o o' x x' a b c d i =
    subst (λ (k : List DemuxRecord). IsTied n film w (both k hc' o' x')) (sym a)
    (subst (λ (k : List CoreRecord). IsTied n film w (both hd k o' x')) (sym b)
    (subst (λ (k : Option Order). IsTied n film w (both hd hc k x')) (sym c)
    (subst (λ (k : Option Outcome). IsTied n film w (both hd hc o k)) (sym d) i)))
