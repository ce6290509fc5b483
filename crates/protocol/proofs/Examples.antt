-- The † lines and the worked openings hold of the definitions.
use mathlib.Core.Path.{◌≡◌, refl}
use mathlib.Core.List.{map}
use Rattle.protocol.specs.Host.{strip, all_allowed}
use Rattle.protocol.specs.AddressReading.{hex_value, digits_from, decimal_goes, hex_goes, number_of, group_of, mark_at, dotted, ipv4_of, follows_at, row, right_of, join_of, whole_of, starts_gap, ipv6_of, destination_of}
use Rattle.protocol.specs.Requests.{negotiation_req, authentication_req, address_field, proxy_req, request}
use Rattle.protocol.specs.Opening.{first_four, announces, check5, check4, opening5, opening4}
use Rattle.protocol.specs.Utf8.{class_of, among, first, next, scan, is_boundary, is_utf8}
use Rattle.protocol.specs.Replies.{negotiation_verdict, authentication_verdict, response_verdict, head_allowed, type_allowed, proxy_size, name_field, proxy_verdict, proxy_at, decide}
use Rattle.protocol.specs.Machine.{run, machine, used}
use Rattle.protocol.specs.Examples.{computed, cases}
use Rattle.protocol.specs.Worked.{working, worked}

pub examples : map computed cases ≡ cases
unfolding strip all_allowed hex_value digits_from decimal_goes hex_goes number_of group_of mark_at dotted ipv4_of follows_at row right_of join_of whole_of starts_gap ipv6_of destination_of negotiation_req authentication_req address_field proxy_req request first_four announces check5 check4 opening5 opening4 class_of among first next scan is_boundary is_utf8 negotiation_verdict authentication_verdict response_verdict head_allowed type_allowed proxy_size name_field proxy_verdict proxy_at decide run machine used
examples = refl

pub worked_openings : map working worked ≡ worked
unfolding strip all_allowed hex_value digits_from decimal_goes hex_goes number_of group_of mark_at dotted ipv4_of follows_at row right_of join_of whole_of starts_gap ipv6_of destination_of negotiation_req authentication_req address_field proxy_req request first_four announces check5 check4 opening5 opening4
worked_openings = refl
