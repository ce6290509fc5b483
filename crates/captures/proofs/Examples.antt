-- The worked captures are answered so.
use mathlib.Core.Path.{refl}
use Rattle.protocol.specs.Bytes.{same}
use Rattle.protocol.specs.Host.{strip, all_allowed}
use Rattle.protocol.specs.AddressReading.{hex_value, digits_from, decimal_goes, hex_goes, number_of, group_of, mark_at, dotted, ipv4_of, destination_of}
use Rattle.protocol.specs.Requests.{negotiation_req, address_field, proxy_req}
use Rattle.protocol.specs.Opening.{check5, opening5}
use Rattle.protocol.specs.Replies.{negotiation_verdict, head_allowed, type_allowed, proxy_size, name_field, proxy_verdict, proxy_at, decide}
use Rattle.client_session.specs.Calls.{prepare5, start, deliver}
use Rattle.talk.specs.Talk.{feed, onward}
use Rattle.talk.specs.Attempts.{decided_in, decided_by}
use Rattle.captures_spec.specs.Captures.{joined}
use Rattle.captures_spec.specs.Reading.{row_within, row_of, alike}
use Rattle.captures.specs.Walk.{taking, walked, held}
use Rattle.captures.specs.Calls as calls
use Rattle.captures.specs.Calls.{compare5}
use Rattle.captures.specs.Worked.{Worked}

pub worked : Worked
unfolding same strip all_allowed hex_value digits_from decimal_goes hex_goes number_of group_of mark_at dotted ipv4_of destination_of negotiation_req address_field proxy_req check5 opening5 negotiation_verdict head_allowed type_allowed proxy_size name_field proxy_verdict proxy_at decide prepare5 start deliver feed onward decided_in decided_by joined row_within row_of alike taking walked held calls.check5 compare5
worked =
    record {
      accepted = refl;
      cut_elsewhere = refl;
      late = refl;
      all_late = refl;
      ahead = refl;
      byte_missing = refl;
      byte_behind = refl;
      empty = refl;
      bytes_cut = refl;
      header_cut = refl;
      alike = refl;
      unlike = refl;
    }
