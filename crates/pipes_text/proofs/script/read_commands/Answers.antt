use Rattle.std.proofs.Common.{◌≡◌, Ok, rules}
use Rattle.pipes_text.specs.ScriptReading.{parse_script}
use Rattle.pipes_text.proofs.ScriptLaws.{commands_fit, files_fit}
use Rattle.pipes_text.proofs.script.read_commands.Goals as goal

pub returns-clause-commands : goal.returns-clause-commands
unfolding parse_script
returns-clause-commands c =
    let e : parse_script c.args.setting.now.0 c.args.setting.now.1 c.args.cursor.now
    ≡ Ok (c.many_within.new.entries, c.many_within.new.cursor) = search rules in
    commands_fit c.args.setting.now.0 (search rules) c.args.setting.now.1 _ _ _ e

pub returns-clause-files : goal.returns-clause-files
unfolding parse_script
returns-clause-files c =
    let e : parse_script c.args.setting.now.0 c.args.setting.now.1 c.args.cursor.now
    ≡ Ok (c.many_within.new.entries, c.many_within.new.cursor) = search rules in
    files_fit c.args.setting.now.0 (search rules) c.args.setting.now.1 _ _ _ e
