-- The † lines hold of the calls, with the bytes in one piece and cut behind the first.
use mathlib.Core.Path.{◌≡◌, refl}
use mathlib.Core.List.{map}
use Rattle.protocol.specs.Host.{strip, all_allowed}
use Rattle.protocol.specs.AddressReading.{hex_value, digits_from, decimal_goes, hex_goes, number_of, group_of, mark_at, dotted, ipv4_of, follows_at, row, right_of, join_of, whole_of, starts_gap, ipv6_of, destination_of}
use Rattle.protocol.specs.Requests.{negotiation_req, authentication_req, address_field, proxy_req, request}
use Rattle.protocol.specs.Opening.{first_four, announces, check5, check4, opening5, opening4}
use Rattle.protocol.specs.Utf8.{class_of, among, first, next, scan, is_boundary, is_utf8}
use Rattle.protocol.specs.Replies.{negotiation_verdict, authentication_verdict, response_verdict, head_allowed, type_allowed, proxy_size, name_field, proxy_verdict, proxy_at, decide}
use Rattle.protocol.specs.Examples.{cases}
use Rattle.client_delivery.specs.wants.Wants.{begins_with, may_connect, size_from, proxy_least, lacking}
use Rattle.client_session.specs.Calls.{prepare5, prepare4, start, deliver, end}
use Rattle.socks.specs.Examples.{called, Turns, Tries, Wanting}
use Rattle.talk.specs.Attempts.{decided_in, decided_by}
use Rattle.talk.specs.Talk.{feed, onward}
use Rattle.talk.specs.Tunnel.{after, total, sent_by, rests}

pub examples_at_once : map (called 0) cases ≡ cases
unfolding strip all_allowed hex_value digits_from decimal_goes hex_goes number_of group_of mark_at dotted ipv4_of follows_at row right_of join_of whole_of starts_gap ipv6_of destination_of negotiation_req authentication_req address_field proxy_req request first_four announces check5 check4 opening5 opening4 class_of among first next scan is_boundary is_utf8 negotiation_verdict authentication_verdict response_verdict head_allowed type_allowed proxy_size name_field proxy_verdict proxy_at decide prepare5 prepare4 start deliver feed onward after total sent_by rests
examples_at_once = refl

pub examples_cut : map (called 1) cases ≡ cases
unfolding strip all_allowed hex_value digits_from decimal_goes hex_goes number_of group_of mark_at dotted ipv4_of follows_at row right_of join_of whole_of starts_gap ipv6_of destination_of negotiation_req authentication_req address_field proxy_req request first_four announces check5 check4 opening5 opening4 class_of among first next scan is_boundary is_utf8 negotiation_verdict authentication_verdict response_verdict head_allowed type_allowed proxy_size name_field proxy_verdict proxy_at decide prepare5 prepare4 start deliver feed onward after total sent_by rests
examples_cut = refl

pub worked_turns : Turns
unfolding strip all_allowed hex_value digits_from decimal_goes hex_goes number_of group_of mark_at dotted ipv4_of follows_at row right_of join_of whole_of starts_gap ipv6_of destination_of negotiation_req authentication_req address_field proxy_req request first_four announces check5 check4 opening5 opening4 class_of among first next scan is_boundary is_utf8 negotiation_verdict authentication_verdict response_verdict head_allowed type_allowed proxy_size name_field proxy_verdict proxy_at decide prepare5 prepare4 start deliver end
worked_turns = record { over5 = refl; over4 = refl }

pub worked_attempts : Tries
unfolding strip all_allowed hex_value digits_from decimal_goes hex_goes number_of group_of mark_at dotted ipv4_of follows_at row right_of join_of whole_of starts_gap ipv6_of destination_of negotiation_req authentication_req address_field proxy_req request first_four announces check5 check4 opening5 opening4 class_of among first next scan is_boundary is_utf8 negotiation_verdict authentication_verdict response_verdict head_allowed type_allowed proxy_size name_field proxy_verdict proxy_at decide prepare5 prepare4 start deliver feed onward after total sent_by rests decided_in decided_by
worked_attempts = record { plain = refl; plainly_singly = refl; signed = refl; signed_singly = refl }

pub worked_wants : Wanting
unfolding strip all_allowed hex_value digits_from decimal_goes hex_goes number_of group_of mark_at dotted ipv4_of follows_at row right_of join_of whole_of starts_gap ipv6_of destination_of negotiation_req authentication_req address_field proxy_req request first_four announces check5 check4 opening5 opening4 class_of among first next scan is_boundary is_utf8 negotiation_verdict authentication_verdict response_verdict head_allowed type_allowed proxy_size name_field proxy_verdict proxy_at decide prepare5 prepare4 start deliver feed onward after total sent_by rests decided_in decided_by begins_with may_connect size_from proxy_least lacking
worked_wants = record { plain = refl; signed = refl; old = refl; connects = refl; fails = refl; fails_then = refl; prepared = refl }
