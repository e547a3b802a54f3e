use Rattle.std.proofs.Common.{◌≡◌, length, refl, rules}
use Rattle.session_file.specs.SessionLines.{loops_said}
use Rattle.session_file.proofs.ReadingLemmas.{end_is_due}
use Rattle.session_file.proofs.session.settings_of.Goals as goal

pub end-requires : goal.end-requires
end-requires c =
    let eight : length c.globals.new.self.lines ≡ 8 = search rules in
    let said : loops_said c.globals.new.self.lines ≡ length c.in_ok-strips.strips = search rules in
    end_is_due c.globals.new.self.lines c.strips.new.self.lines c.in_ok-strips.strips
    (length c.in_ok-strips.strips) c.in_ok-strips.ensures.lines eight said refl
