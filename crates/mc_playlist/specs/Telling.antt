-- A script's text that is written record by record.
use Rattle.std.specs.Prelude.{◌≡◌, List, ◌++◌, string_bytes}
use Rattle.mc_props.specs.declared.entries.PropEntry.{PropEntry}
use Rattle.mc_playlist.specs.Table.{Stated}
use Rattle.mc_playlist.specs.Text.{Told, act_text, told_after}
use Rattle.mc_playlist.specs.Watches.{Current}
use Rattle.mc_playlist.specs.declared.acts.ListAct.{ListAct}
use Rattle.mc_playlist.specs.declared.telling.Telling.{Telling}

-- what is known behind the last line
abbrev pub told_of : Telling → Told
told_of t = record { facts = t.playlist; watches = t.watches; runs = t.runs.now }

-- a line's text stands behind the others, and what is known then is what is known behind it
pub record Tells (stated : Stated) (entries : List PropEntry) (act : ListAct) (t t' : Telling)
    : Type 0 where
  pub text : string_bytes t'.text
      ≡ string_bytes t.text ++ act_text stated entries (told_of t) act
  pub known : told_of t' ≡ told_after stated entries (told_of t) act
  pub current : Current stated entries t'.playlist t'.watches
