-- The entries of the properties are those of a table.
use Rattle.std.proofs.Common.{◌≡◌, ℕ, zero, suc, List, [], ◌∷◌, map, Some, refl, ap, lit<}
use Rattle.std.specs.List.{slice_get}
use Rattle.mc_props.specs.Entries.{AreEntries, Masked}
use Rattle.mc_props.specs.Fields.{Agree}
use Rattle.mc_props.specs.Standard.{entry_of, properties, property_mask, reading_of, standard_of, standard_table}
use Rattle.mc_props.specs.declared.facts.Facts.{Facts}
use Rattle.mc_props.specs.declared.entries.PropEntry.{PropEntry}
use Rattle.mc_props.specs.declared.properties.Property.{Property}
use Rattle.mc_props.specs.declared.properties.Property.TheVariants as property

-- each property reads the fields of its mask alone
same_reading : (p : Property) (f g : Facts) → Agree (property_mask p) f g → reading_of p f ≡ reading_of p g
same_reading property.Pause f g agree = let e : f.pause ≡ g.pause = agree.pause refl in rw e refl
same_reading property.Mute f g agree = let e : f.mute ≡ g.mute = agree.mute refl in rw e refl
same_reading property.Path f g agree =
    let a : f.loaded ≡ g.loaded = agree.loaded refl in
    let b : f.path ≡ g.path = agree.path refl in rw (a, b) refl
same_reading property.Filename f g agree =
    let a : f.loaded ≡ g.loaded = agree.loaded refl in
    let b : f.path ≡ g.path = agree.path refl in rw (a, b) refl
same_reading property.FileFormat f g agree = let a : f.loaded ≡ g.loaded = agree.loaded refl in rw a refl
same_reading property.IdleActive f g agree = let a : f.loaded ≡ g.loaded = agree.loaded refl in rw a refl
same_reading property.Seekable f g agree =
    let a : f.loaded ≡ g.loaded = agree.loaded refl in
    let b : f.set ≡ g.set = agree.set refl in rw (a, b) refl
same_reading property.TrackList f g agree =
    let a : f.loaded ≡ g.loaded = agree.loaded refl in
    let b : f.tracks ≡ g.tracks = agree.tracks refl in
    let d : f.set ≡ g.set = agree.set refl in rw (a, b, d) refl
same_reading (property.Track kind) f g agree =
    let a : f.loaded ≡ g.loaded = agree.loaded refl in
    let b : f.tracks ≡ g.tracks = agree.tracks refl in
    let d : f.set ≡ g.set = agree.set refl in rw (a, b, d) refl
same_reading property.TimePos f g agree =
    let a : f.loaded ≡ g.loaded = agree.loaded refl in
    let b : f.cache ≡ g.cache = agree.cache refl in rw (a, b) refl
same_reading property.DemuxerCacheState f g agree =
    let a : f.loaded ≡ g.loaded = agree.loaded refl in
    let b : f.cache ≡ g.cache = agree.cache refl in rw (a, b) refl
same_reading property.EofReached f g agree =
    let a : f.loaded ≡ g.loaded = agree.loaded refl in
    let b : f.cache ≡ g.cache = agree.cache refl in rw (a, b) refl

-- the entry at a place is that of the property at the place
entry_at : (ps : List Property) (k : ℕ) (e : PropEntry) → slice_get (map entry_of ps) k ≡ Some e
    → (p : Property) × (slice_get ps k ≡ Some p) × (e ≡ entry_of p)
entry_at [] k e is = cc
entry_at (p ∷ ps) zero e is = (p, refl, cc)
entry_at (p ∷ ps) (suc k) e is = entry_at ps k e is

masked : Masked standard_of standard_table
unfolding standard_of
masked k e is f g agree =
    let found : (p : Property) × (slice_get properties k ≡ Some p) × (e ≡ entry_of p) = entry_at properties k e is in
    rw (found.1) (same_reading found.0 f g (let mask : e.mask ≡ property_mask found.0 = ap (λ (x : PropEntry). x.mask) found.2 in rw mask at agree))

pub standard_fits : AreEntries standard_of standard_table
standard_fits = record { few = lit< tt; distinct = refl; settings = refl; masked = masked }
