-- The entries are those of a table.
use Rattle.std.proofs.Common.{◌≡◌, ℕ, zero, suc, List, [], ◌∷◌, false, Some, refl, ap, lit<}
use Rattle.std.specs.List.{slice_get}
use Rattle.mc_props.specs.declared.entries.PropEntry.{PropEntry}
use Rattle.mc_playlist.specs.Fields.{Agree}
use Rattle.mc_playlist.specs.Table.{AreEntries, Masked}
use Rattle.mc_playlist.specs.declared.facts.ListFacts.{ListFacts}
use Rattle.playlist_rows.specs.Own.{own_of, own_table}

mask_of : (e : PropEntry) (name : List ℕ) (mask : ℕ) → Some (record { name = name; mask = mask; writable = false }) ≡ Some e → e.mask ≡ mask
mask_of e name mask is = cc

-- each property shows the fields of its mask alone
masked : Masked own_of own_table
masked zero e is f g agree =
    let m : e.mask ≡ 1 = mask_of e _ 1 is in
    let names : f.names ≡ g.names = agree.names (rw m refl) in rw names refl
masked (suc zero) e is f g agree =
    let m : e.mask ≡ 2 = mask_of e _ 2 is in
    let place : f.pos ≡ g.pos = agree.pos (rw m refl) in rw place refl
masked (suc (suc zero)) e is f g agree =
    let m : e.mask ≡ 3 = mask_of e _ 3 is in
    let names : f.names ≡ g.names = agree.names (rw m refl) in
    let place : f.pos ≡ g.pos = agree.pos (rw m refl) in rw (names, place) refl
masked (suc (suc (suc zero))) e is f g agree =
    let m : e.mask ≡ 3 = mask_of e _ 3 is in
    let names : f.names ≡ g.names = agree.names (rw m refl) in
    let place : f.pos ≡ g.pos = agree.pos (rw m refl) in rw (names, place) refl
masked (suc (suc (suc (suc k)))) e is f g agree = absurd (cc)

pub own_fits : AreEntries own_of own_table
own_fits = record { few = lit< tt; distinct = refl; masked = masked }
