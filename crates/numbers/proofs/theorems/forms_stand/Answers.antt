use Rattle.std.proofs.Common.{sym, subst}
use Rattle.numbers.specs.Forms.{Form}
use Rattle.numbers.proofs.Forms.{one_reading, some_byte}
use Rattle.numbers.proofs.Encoding.{encode_form, form_is, encode_few}
use Rattle.numbers.proofs.theorems.forms_stand.Goals as goal

pub returns : goal.returns
returns c = record {
  encoded = λ n bytes h. ((λ f. sym (form_is h f)), (λ e. subst (Form n) e (encode_form n h)));
  some = λ n h. (encode_form n h, some_byte (encode_form n h), encode_few n, λ bytes f. form_is h f);
  one = one_reading;
  back = λ bytes at value count h. form_is h.small h.form;
}
