use Rattle.std.proofs.Common.{Some, map, string_bytes, sym, refl, ap, ◌∙◌}
use Rattle.pipes_args.specs.Command as args
use Rattle.pipes_args.specs.Command.{command_seen}
use Rattle.pipes_args.specs.declared.command.Command.{Command as Read}
use Rattle.pipes_args.specs.declared.settings.Mode.{Mode}
use Rattle.pipes_run.specs.Errand as errand
use Rattle.pipes_run.specs.Errand.{turned_by}
use Rattle.pipes_run.specs.Seen.{step_fault}
use Rattle.pipes_run.proofs.Calls.{ran_words, ran_unserved, ran_command}
use Rattle.pipes_run.proofs.do_command.Goals as goal

pub returns-in-None : goal.returns-in-None
returns-in-None g c = ran_words (map string_bytes c.args.words.now)
    (g.F.Files.known c.args.files.now) _ _ (g.K.Sink.written c.args.out.now)
    (sym c.in-None.ensures.command)

pub returns-in-Inline : goal.returns-in-Inline
returns-in-Inline g c =
    ran_command (map string_bytes c.args.words.now) (args.Run c.in-Some-Run.query.now
    c.in-Some-Run.script.now
    c.in-Some-Run.settings)
    (errand.Run c.in-Some-Run.query.now c.in-Some-Run.script.now c.in-Some-Run.settings.form)
    (g.F.Files.known c.args.files.now) _ _
    (g.K.Sink.written c.args.out.now) (g.K.Sink.written c.run_query.new.out)
    (step_fault c.run_query.result)
    (sym c.in-Some-Run.ensures.command
    ∙ ap (λ (x : Read). Some (command_seen x)) c.in-Some-Run.field-0-is)
    (ap (λ (m : Mode). turned_by m
    (errand.Run c.in-Some-Run.query.now c.in-Some-Run.script.now c.in-Some-Run.settings.form))
    c.in-Inline.is) c.run_query.ensures

pub returns-in-Threaded : goal.returns-in-Threaded
returns-in-Threaded g c =
    ran_unserved (map string_bytes c.args.words.now) (args.Run c.in-Some-Run.query.now
    c.in-Some-Run.script.now
    c.in-Some-Run.settings)
    (g.F.Files.known c.args.files.now) _ _ (g.K.Sink.written c.args.out.now)
    (sym c.in-Some-Run.ensures.command
    ∙ ap (λ (x : Read). Some (command_seen x)) c.in-Some-Run.field-0-is)
    (ap (λ (m : Mode). turned_by m
    (errand.Run c.in-Some-Run.query.now c.in-Some-Run.script.now c.in-Some-Run.settings.form))
    c.in-Threaded.is)

pub returns-in-Some-Make : goal.returns-in-Some-Make
returns-in-Some-Make g c =
    ran_unserved (map string_bytes c.args.words.now) (args.Make c.in-Some-Make.field-0-0
    c.in-Some-Make.field-0-1 c.in-Some-Make.field-0-2) (g.F.Files.known c.args.files.now) _ _
    (g.K.Sink.written c.args.out.now)
    (sym c.in-Some-Make.ensures.command
    ∙ ap (λ (x : Read). Some (command_seen x)) c.in-Some-Make.field-0-is) refl

pub returns-in-Some-At : goal.returns-in-Some-At
returns-in-Some-At g c =
    ran_command (map string_bytes c.args.words.now) (args.At c.in-Some-At.query.now
    c.in-Some-At.time)
    (errand.At c.in-Some-At.query.now c.in-Some-At.time) (g.F.Files.known c.args.files.now) _ _
    (g.K.Sink.written c.args.out.now) (g.K.Sink.written c.answer_query.new.out)
    (step_fault c.answer_query.result)
    (sym c.in-Some-At.ensures.command
    ∙ ap (λ (x : Read). Some (command_seen x)) c.in-Some-At.field-0-is)
    refl c.answer_query.ensures

pub returns-in-Some-Check : goal.returns-in-Some-Check
returns-in-Some-Check g c =
    ran_command (map string_bytes c.args.words.now) (args.Check c.in-Some-Check.query.now)
    (errand.Check c.in-Some-Check.query.now) (g.F.Files.known c.args.files.now) _ _
    (g.K.Sink.written c.args.out.now) (g.K.Sink.written c.check_query.new.out)
    (step_fault c.check_query.result)
    (sym c.in-Some-Check.ensures.command
    ∙ ap (λ (x : Read). Some (command_seen x)) c.in-Some-Check.field-0-is)
    refl c.check_query.ensures

pub returns-in-Some-Derive : goal.returns-in-Some-Derive
returns-in-Some-Derive g c =
    ran_command (map string_bytes c.args.words.now) (args.Derive c.in-Some-Derive.query.now
    c.in-Some-Derive.derivation.now)
    (errand.Derive c.in-Some-Derive.query.now c.in-Some-Derive.derivation.now) (g.F.Files.known
    c.args.files.now) _ _
    (g.K.Sink.written c.args.out.now) (g.K.Sink.written c.derive_query.new.out)
    (step_fault c.derive_query.result)
    (sym c.in-Some-Derive.ensures.command
    ∙ ap (λ (x : Read). Some (command_seen x)) c.in-Some-Derive.field-0-is)
    refl c.derive_query.ensures
