-- What a crate above says of a command: what is read for it, and what is answered.
pub use Rattle.lvdc_cli.specs.declared.command.Command.{Command}
pub use Rattle.lvdc_cli.specs.Words.{command_of, reads_for, limit_of}
pub use Rattle.lvdc_cli.specs.Texts.{read_fault_text, too_long_text}
pub use Rattle.lvdc_cli.specs.Commands.{answer, answer_by, too_long_answer, command_answer, input_of}
pub use Rattle.lvdc_cli.specs.Top.{IsTold, cut}
