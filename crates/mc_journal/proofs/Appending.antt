-- Records that are added to a journal one by one.
use Rattle.std.proofs.Common.{◌≡◌, List, [], ◌∷◌, ◌++◌, refl, sym, ap, subst, ◌∙◌, append_assoc}
use Rattle.std.specs.Prelude.{reverse}
use Rattle.std.proofs.lemmas.List.{reverse-append}
use Rattle.mc_packet.specs.declared.cache.Limits.{Limits}
use Rattle.mc_journal.specs.declared.record.DemuxRecord.{DemuxRecord}
use Rattle.mc_journal.specs.Films.{Film}
use Rattle.mc_journal.specs.Used.{IsUsed, AreNext, onto}

pub used-onto : (film : Film) (limits : Limits) (rs h : List DemuxRecord) → IsUsed film limits h → AreNext film limits h rs → IsUsed film limits (onto rs h)
used-onto film limits [] h used next = used
used-onto film limits (r ∷ rs) h used next = used-onto film limits rs (r ∷ h) (next.0, used) next.1

onto-is : (rs h : List DemuxRecord) → reverse rs ++ h ≡ onto rs h
onto-is [] h = refl
onto-is (r ∷ rs) h = ap (λ (l : List DemuxRecord). l ++ h) (reverse-append (r ∷ []) rs) ∙ append_assoc (reverse rs) (r ∷ []) h ∙ onto-is rs (r ∷ h)

-- the oldest first, they stand behind the journal
pub used-appended : (film : Film) (limits : Limits) (hd rs : List DemuxRecord) → IsUsed film limits (reverse hd) → AreNext film limits (reverse hd) rs
    → IsUsed film limits (reverse (hd ++ rs))
used-appended film limits hd rs used next =
    let P : List DemuxRecord → Type 0 = λ h. IsUsed film limits h in
    subst P (sym (reverse-append hd rs ∙ onto-is rs (reverse hd))) (used-onto film limits rs (reverse hd) used next)
