use Rattle.wav_pcm.proofs.FormLemmas.{seen_is_wav, seen_within, seen_format}
use Rattle.wav_pcm.proofs.form.wav_form.Goals as goal

pub returns-clause-found : goal.returns-clause-found
returns-clause-found c = seen_is_wav c.args.bytes.now c.form_in.result c.form_in.ensures

pub returns-clause-within : goal.returns-clause-within
returns-clause-within c = seen_within c.args.bytes.now c.form_in.result c.form_in.ensures

pub returns-clause-format : goal.returns-clause-format
returns-clause-format c = seen_format c.args.bytes.now c.form_in.result c.form_in.ensures
