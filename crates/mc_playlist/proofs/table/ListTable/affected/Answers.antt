use Rattle.std.proofs.Common.{◌≡◌, ◌∙◌, Some, ap, sym}
use Rattle.mc_props.specs.Fields.{share_field}
use Rattle.mc_props.specs.Readings.{mask_at}
use Rattle.mc_playlist.proofs.Masks.{spared}
use Rattle.mc_playlist.proofs.table.ListTable.affected.Goals as goal

pub returns-clause-spared : goal.returns-clause-spared
returns-clause-spared g c =
    let masks : share_field (mask_at c.args.self.now (Some c.args.place)) c.args.mask ≡ c.share_field.result =
    ap (λ m. share_field m c.args.mask) (sym c.mask_at.ensures.value) ∙ sym c.share_field.ensures in
    λ e lt f h outside.
    spared g.M.ListMeaning.value c.args.self.now c.mask_at.ensures.fit.masked c.args.place lt c.args.mask (masks ∙ e) f h outside
