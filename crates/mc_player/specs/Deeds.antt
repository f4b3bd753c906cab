-- What a request does once it is taken, and the reply to it.
use Rattle.std.specs.Prelude.{ℕ, ℤ, pos, neg_ℤ, ◌+ℤ◌, ◌^◌, int_lt, Bool, true, false, not, if◌then◌else◌, List, codes, Option, Some, None, Result, Ok, Err}
use Rattle.std.specs.Option.{unwrap_or}
use Rattle.std.specs.Str.{bytes_eq}
use Rattle.mc_value.specs.declared.value.Value.{Value}
use Rattle.mc_value.specs.declared.value.Value.TheVariants as value
use Rattle.mc_packet.specs.declared.choice.Dir.{Dir}
use Rattle.mc_packet.specs.declared.choice.Dir.TheVariants.{Back, Forward}
use Rattle.mc_dispatch.specs.declared.call.Call.{Call}
use Rattle.mc_dispatch.specs.declared.call.Call.TheVariants as call
use Rattle.mc_dispatch.specs.declared.request.ClientNo.{ClientNo}
use Rattle.mc_ring.specs.declared.event.Event.{Event}
use Rattle.mc_ring.specs.declared.event.Event.TheVariants as event
use Rattle.mc_command.specs.Commands.{parsed}
use Rattle.mc_command.specs.declared.command.Command.{Command}
use Rattle.mc_command.specs.declared.command.Command.TheVariants as commands
use Rattle.mc_props.specs.Readings.{got}
use Rattle.mc_props.specs.Refusals.{error_number}
use Rattle.mc_props.specs.Settings.{set_to}
use Rattle.mc_props.specs.declared.facts.Facts.{Facts}
use Rattle.mc_props.specs.declared.refusal.PropError.{PropError}
use Rattle.mc_props.specs.declared.settings.Write.{Write}
use Rattle.mc_props.specs.declared.settings.Write.TheVariants as write
use Rattle.mc_player.specs.declared.deed.Deed.{Deed}
use Rattle.mc_player.specs.declared.deed.Deed.TheVariants as deed
use Rattle.mc_player.specs.Lives.{Table}

-- ---- errors of `client.h`

abbrev pub queue_full : ℤ
queue_full = neg_ℤ (pos 1)

abbrev pub invalid_parameter : ℤ
invalid_parameter = neg_ℤ (pos 4)

abbrev pub command_error : ℤ
command_error = neg_ℤ (pos 12)

abbrev pub generic_error : ℤ
generic_error = neg_ℤ (pos 20)

-- ---- what a request does

abbrev pub get_deed : Result Value PropError → Deed
get_deed (Ok v) = deed.Gives v
get_deed (Err e) = deed.Fails (error_number e)

-- a selection takes effect at the time of the cache's view, or at 0
abbrev pub set_deed : Facts → Result Write PropError → Deed
set_deed f (Ok (write.Pause on)) = deed.Pauses on
set_deed f (Ok (write.Mute on)) = deed.Mutes on
set_deed f (Ok (write.Select set)) = deed.Selects set (unwrap_or f.cache.time (pos 0))
set_deed f (Err e) = deed.Fails (error_number e)

-- the furthest time, on either side of 0
abbrev pub far : ℤ
far = pos (2 ^ 62)

abbrev pub clamped : ℤ → ℤ
clamped t = if int_lt far t then far else if int_lt t (neg_ℤ far) then neg_ℤ far else t

-- the time to seek: an absolute one, or one from the view's time on, if there is one
abbrev pub goal_of : Option ℤ → ℤ → Bool → Option ℤ
goal_of time t true = Some (clamped t)
goal_of None t false = None
goal_of (Some here) t false = Some (clamped (here +ℤ t))

abbrev pub dir_of : Bool → Dir
dir_of true = Forward
dir_of false = Back

abbrev pub seek_deed : Dir → Option ℤ → Deed
seek_deed dir None = deed.Fails command_error
seek_deed dir (Some t) = deed.Seeks t dir

-- `pause` and `mute` are turned over
abbrev pub cycle_deed : Facts → List ℕ → Deed
cycle_deed f name =
    if bytes_eq name (codes "pause") then deed.Pauses (not f.pause) else
    if bytes_eq name (codes "mute") then deed.Mutes (not f.mute) else
    deed.Fails command_error

abbrev pub send_deed : List (List ℕ) → Option ClientNo → Deed
send_deed words None = deed.Fails command_error
send_deed words (Some c) = deed.SendsTo c words

-- what a command does, where `who` has the client of each name
abbrev pub command_deed : Table → Facts → (List ℕ → Option ClientNo) → Result Command ℕ → Deed
command_deed t f who (Ok (commands.Seek s absolute forward)) =
    seek_deed (dir_of forward) (goal_of f.cache.time s absolute)
command_deed t f who (Ok (commands.Set name v)) =
    set_deed f (set_to t.value t.entries name f (value.Str v))
command_deed t f who (Ok (commands.Cycle name)) = cycle_deed f name
command_deed t f who (Ok (commands.Message words)) = deed.Sends words
command_deed t f who (Ok (commands.MessageTo client words)) = send_deed words (who client)
command_deed t f who (Ok commands.Ignore) = deed.Ignores
command_deed t f who (Ok commands.Quit) = deed.Quits
command_deed t f who (Err bad) = deed.Fails command_error

-- what a request does; a call that is none does nothing
abbrev pub deed_of : Table → Facts → (List ℕ → Option ClientNo) → Call → Deed
deed_of t f who (call.Get id name format) = get_deed (got t.value t.entries name f format)
deed_of t f who (call.Set id name v) = set_deed f (set_to t.value t.entries name f v)
deed_of t f who (call.Command id words) = command_deed t f who (parsed words)
deed_of t f who c = deed.Ignores

-- ---- the facts after it

abbrev pub with_pause : Facts → Bool → Facts
with_pause f on = record {
  path = f.path;
  tracks = f.tracks;
  set = f.set;
  pause = on;
  mute = f.mute;
  cache = f.cache;
  loaded = f.loaded;
}

abbrev pub with_mute : Facts → Bool → Facts
with_mute f on = record {
  path = f.path;
  tracks = f.tracks;
  set = f.set;
  pause = f.pause;
  mute = on;
  cache = f.cache;
  loaded = f.loaded;
}

abbrev pub after_deed : Deed → Facts → Facts
after_deed (deed.Pauses on) f = with_pause f on
after_deed (deed.Mutes on) f = with_mute f on
after_deed d f = f

-- ---- its reply

abbrev pub deed_error : Deed → ℤ
deed_error (deed.Fails e) = e
deed_error d = pos 0

abbrev pub deed_value : Deed → Value
deed_value (deed.Gives v) = v
deed_value d = value.None

-- the reply to a request, with an error and a value
abbrev pub reply_of : Call → ℤ → Value → Event
reply_of (call.Get id name format) e v = event.GetReply id e v
reply_of (call.Set id name x) e v = event.SetReply id e
reply_of (call.Command id words) e v = event.CommandReply id e
reply_of c e v = event.CommandReply 0 e
