-- The room that texts may take: a report's at least, a session's at most.
use Rattle.std.proofs.Common.{◌≤◌, arith}
use Rattle.std.specs.declared.option.Option.{Option}
use Rattle.std.specs.declared.option.Option.TheVariants.{None, Some}
use Rattle.lvdc_cli.specs.declared.TheConstants.{ROOM, SESSION_ROOM}
use Rattle.lvdc_cli.specs.declared.command.Command.{Command}
use Rattle.lvdc_cli.specs.declared.command.Command.TheVariants.{Run, Soak, Assemble, Debug, Save, Resume, Campaign, Uplink, Expand}
use Rattle.lvdc_cli.specs.Commands.{room_of, room_for}

pub room_of-least : (command : Command) → ROOM ≤ room_of command
room_of-least (Run engine) = omega arith
room_of-least (Soak number) = omega arith
room_of-least (Assemble product) = omega arith
room_of-least Debug = omega arith
room_of-least (Save times) = omega arith
room_of-least Resume = omega arith
room_of-least Campaign = omega arith
room_of-least Uplink = omega arith
room_of-least (Expand form) = omega arith

pub room_of-most : (command : Command) → room_of command ≤ SESSION_ROOM
room_of-most (Run engine) = omega arith
room_of-most (Soak number) = omega arith
room_of-most (Assemble product) = omega arith
room_of-most Debug = omega arith
room_of-most (Save times) = omega arith
room_of-most Resume = omega arith
room_of-most Campaign = omega arith
room_of-most Uplink = omega arith
room_of-most (Expand form) = omega arith

pub room_for-most : (command : Option Command) → room_for command ≤ SESSION_ROOM
room_for-most None = omega arith
room_for-most (Some command) = room_of-most command
