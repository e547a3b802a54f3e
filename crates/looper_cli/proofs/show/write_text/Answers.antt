use Rattle.std.proofs.Common.{refl}
use Rattle.std.specs.String.{string_bytes}
use Rattle.looper_cli.proofs.ConsoleLemmas.{session_told}
use Rattle.looper_cli.proofs.show.write_text.Goals as goal

pub returns : goal.returns
returns c =
    session_told c.args.strips.now _ c.frames_in-frames.result (string_bytes c.in_ok-text.text)
    (string_bytes c.write_lines.new.text) (string_bytes c.push_str.new.self) c.line.result.now
    refl c.frames_in-frames.ensures c.in_ok-text.ensures.ok c.in_ok-write_lines.ensures
    c.in_ok-push_str.ensures.bytes c.line.ensures
