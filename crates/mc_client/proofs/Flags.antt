-- Flags keep a client fresh: what a mask spares shows the same at facts that differ in the mask's fields alone.
use Rattle.std.proofs.Common.{◌≡◌, ℕ, false, List, [], map, Option, Some, None, not, refl, sym, ap, ◌∙◌}
use Rattle.std.specs.Prelude.{slice_index_or}
use Rattle.std.proofs.lemmas.Bool.{or_parts}
use Rattle.std.proofs.lemmas.List.Elements.{All-filter, All-map}
use Rattle.std.proofs.lemmas.List.Quantifiers.{position-Some}
use Rattle.mc_value.specs.declared.value.Format.{Format}
use Rattle.mc_props.specs.Entries.{Masked, has_name, place_of, property_part}
use Rattle.mc_props.specs.Fields.{AgreeOutside, share_field}
use Rattle.mc_props.specs.Readings.{mask_at, present_of}
use Rattle.mc_props.specs.declared.facts.Facts.{Facts}
use Rattle.mc_props.specs.declared.entries.PropEntry.{PropEntry}
use Rattle.mc_props.specs.declared.reading.Reading.{Reading}
use Rattle.mc_props.proofs.Masks.{spared}
use Rattle.mc_client.specs.Watches.{Fresh, IsPlaced, IsSure, flagged_for, has_id, present, without_id}
use Rattle.mc_client.specs.declared.watch.Watch.{Watch}

no_entry : PropEntry
no_entry = record { name = []; mask = 0; writable = false }

same_shown : (stated : ℕ → Facts → Reading) (entries : List PropEntry) → Masked stated entries → (part : List ℕ) (entry : Option ℕ) → entry ≡ place_of part entries
    → (mask : ℕ) → share_field (mask_at entries entry) mask ≡ false → (f g : Facts) → AgreeOutside mask f g
    → (name : List ℕ) (to : Format) → present_of stated entry name to f ≡ present_of stated entry name to g
same_shown stated entries masked part None placed mask apart f g outside name to = refl
same_shown stated entries masked part (Some k) placed mask apart f g outside name to =
    let found = position-Some (has_name part) entries k no_entry (sym placed) in
    spared stated entries masked k found.0 mask apart f g outside name to

-- an observer that isn't flagged for the mask is as sure as before
stays_sure : (stated : ℕ → Facts → Reading) (entries : List PropEntry) → Masked stated entries → (mask : ℕ) (f g : Facts) → AgreeOutside mask f g
    → (w : Watch) → IsPlaced entries w → IsSure (present stated f) w → IsSure (present stated g) (flagged_for entries mask w)
stays_sure stated entries masked mask f g outside w placed sure down =
    let parts = or_parts w.flagged (share_field (mask_at entries w.entry) mask) down in
    sure parts.0 ∙ ap (λ s. Some s) (same_shown stated entries masked (property_part w.name) w.entry placed mask parts.1 f g outside w.name w.format)

pub fresh_for : (stated : ℕ → Facts → Reading) (entries : List PropEntry) → Masked stated entries → (mask : ℕ) (f g : Facts) → AgreeOutside mask f g
    → (ws : List Watch) → Fresh stated entries f ws → Fresh stated entries g (map (flagged_for entries mask) ws)
fresh_for stated entries masked mask f g outside ws h =
    let flagged : Watch → Watch = flagged_for entries mask in
    let Sure : Watch → Type 0 = IsSure (present stated g) in
    record {
      placed = All-map (IsPlaced entries) flagged ws h.placed;
      sure = All-map Sure flagged ws (λ k d within.
          stays_sure stated entries masked mask f g outside (slice_index_or ws k d) (h.placed k d within) (h.sure k d within));
    }

pub fresh_without : (stated : ℕ → Facts → Reading) (entries : List PropEntry) (facts : Facts) (id : ℕ) (ws : List Watch)
    → Fresh stated entries facts ws → Fresh stated entries facts (without_id id ws)
fresh_without stated entries facts id ws h = record {
  placed = All-filter (λ w. not (has_id id w)) (IsPlaced entries) ws h.placed;
  sure = All-filter (λ w. not (has_id id w)) (IsSure (present stated facts)) ws h.sure;
}
