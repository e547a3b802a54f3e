use Rattle.std.proofs.Common.{◌≡◌, ap, ◌∙◌, List, rules}
use Rattle.std.specs.String.{string_bytes}
use Rattle.sl_commands.specs.declared.settings.StripSettings.{StripSettings}
use Rattle.session_file.specs.Sessions.{session_text}
use Rattle.session_file.proofs.write.session_text.Goals as goal

pub returns : goal.returns
returns c =
    let items : c.into_bytes.result.items ≡ string_bytes c.in_ok-text.text = search rules in
    items ∙ c.in_ok-text.ensures
    ∙ ap (λ (ss : List StripSettings).
    session_text (record {
      rate = c.settings.inside.rate;
      globals = c.settings.inside.globals;
      strips = ss;
    })) c.as_slice-strips.ensures.value
    ∙ ap session_text c.settings.view_is
