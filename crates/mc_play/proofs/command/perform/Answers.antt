use Rattle.std.proofs.Common.{◌∙◌, arith}
use Rattle.mc_tracks.specs.TrackList.{default_choice_of}
use Rattle.mc_play.proofs.Plays.{film_played, grows_earlier}
use Rattle.mc_play.proofs.command.perform.Goals as goal

pub returns-in-Ok-clause-played : goal.returns-in-Ok-clause-played
returns-in-Ok-clause-played g c =
    let script = c.in_ok-script in
    let film = c.in_ok-cursor in
    let played = c.in-Ok in
    record {
      lines = script.script;
      script = script.ensures.script;
      film =
          film_played (g.D.Shelf.files c.args.shelf.now) (g.D.Shelf.files c.open_film.new.shelf) (g.D.Shelf.opened c.open_film.new.shelf) _ c.args.line film.cursor script.script played.played.halt played.played.hd
          (film.ensures.files ∙ script.ensures.files) film.ensures.opened played.ensures.played;
      set = default_choice_of film.cursor.tracks;
      grows =
          grows_earlier (g.D.Shelf.faults c.open_film.new.shelf) c.args.before (g.D.Shelf.faults c.play.new.shelf) _ played.played.hd
          (omega (arith, c.requires.before, script.ensures.later, film.ensures.later)) played.ensures.grows;
      full = played.ensures.full;
    }
