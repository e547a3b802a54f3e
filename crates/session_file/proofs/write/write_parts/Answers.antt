use Rattle.std.specs.String.{string_bytes}
use Rattle.session_file.proofs.WriteLemmas.{session_written}
use Rattle.session_file.proofs.write.write_parts.Goals as goal

pub returns : goal.returns
returns c =
    session_written (record {
      rate = c.args.rate;
      globals = c.args.globals.now;
      strips =
          c.args.strips.now;
    }) (string_bytes c.in_ok-out.out) (string_bytes c.write_front.new.out)
    (string_bytes c.write_mix.new.out)
    (string_bytes c.write_times.new.out) (string_bytes c.write_strips.new.out)
    (string_bytes c.push_str.new.self)
    c.in_ok-out.ensures.ok c.in_ok-write_front.ensures c.in_ok-write_mix.ensures
    c.in_ok-write_times.ensures c.in_ok-write_strips.ensures c.in_ok-push_str.ensures.bytes
