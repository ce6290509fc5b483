-- F-3's sentences, computed on bytes by the plain machine and by the side.
use mathlib.Core.Path.{refl}
use Rattle.protocol.specs.Bytes.{same}
use Rattle.protocol.specs.Opening.{announces}
use Rattle.proxy_spec.specs.Reads.{greeting_in, login_in, target_in, connect_in, text_in, request_in}
use Rattle.proxy_spec.specs.End.{offers, connecting, signing, machine, used}
use Rattle.proxy_spec.specs.Side.{reads}
use Rattle.proxy_spec.specs.Shortest.{wants_at, agrees}
use Rattle.proxy_spec.specs.Worked.{Worked}
use Rattle.proxy_spec.specs.WorkedWants.{WorkedWants}
use Rattle.talk.specs.Talk.{feed}

pub worked : Worked
unfolding machine connecting signing greeting_in login_in connect_in target_in request_in text_in offers same used announces feed reads
worked =
    record {
      no_byte = (refl, refl);
      version = (refl, refl);
      count_none = (refl, refl);
      count_most = (refl, refl);
      count_short = (refl, refl);
      chooses2 = (refl, refl);
      chooses0 = (refl, refl);
      not_offered2 = (refl, refl);
      not_offered0 = (refl, refl);
      login_blank = (refl, refl);
      login_right = (refl, refl);
      login_wrong = (refl, refl);
      login_short = (refl, refl);
      login_version = (refl, refl);
      connect_version = (refl, refl);
      reserved = (refl, refl);
      unknown_type = (refl, refl);
      command5 = (refl, refl);
      command5_short = (refl, refl);
      command4 = (refl, refl);
      secret4 = (refl, refl);
      secret4_short = (refl, refl);
      user_most = (refl, refl);
      user_over = (refl, refl);
      name_none = (refl, refl);
      name5 = (refl, refl);
      name_none4 = (refl, refl);
      name4 = (refl, refl);
      name_most4 = (refl, refl);
      name_over4 = (refl, refl);
      hands4 = (refl, refl);
      hands6 = (refl, refl);
      gives4 = refl;
      gives6 = refl;
      answers5 = refl;
      answers4 = refl;
      strange5 = refl;
      strange4 = refl;
      opens = (refl, refl);
      refuses = (refl, refl);
      refuses_strange = (refl, refl);
    }

pub worked_wants : WorkedWants
unfolding wants_at agrees offers same text_in announces feed reads
worked_wants =
    record {
      fresh = refl;
      fresh_known = refl;
      fresh_blank = refl;
      version5 = refl;
      methods = refl;
      last_method = refl;
      user = refl;
      user_length = refl;
      user_longer = refl;
      user_other = refl;
      password = refl;
      password_begun = refl;
      password_longer = refl;
      password_other = refl;
      head = refl;
      head_known = refl;
      command = refl;
      command_other = refl;
      type = refl;
      type_other = refl;
      four = refl;
      six = refl;
      name = refl;
      name_length = refl;
      four_other = refl;
      name_other = refl;
      version4 = refl;
      version4_known = refl;
      request_other = refl;
      user_id = refl;
      user_id_known = refl;
      announcing = refl;
      announcing_known = refl;
      name4 = refl;
      name4_begun = refl;
      name4_known = refl;
      asked = refl;
      failed = refl;
    }
