-- The made stream of packets. Assumes nothing.
--   binary_digits      how many binary digits a number has; 0 has none
--   among              how many of the flows, the first ones, that of a packet is drawn among: all of them, halved a number of times that is drawn below their binary digits, and at least one
--   flow_from          the flow of a packet, from two numbers drawn
--   weight_from        its weight, from one
--   packet_from        the packet of the three numbers drawn from a state on
--   packet_at          the packet of a stream at an index, counted from 0: three numbers were drawn for each before it
--   weight_of          its weight where it is of a flow, and else 0
--   volume_between     the weights of a flow's packets from an index on, so many packets
--   volume_in_window   the same of the last so many packets before an index, or of all where there are fewer
use Rattle.std.specs.Prelude.{ℕ, zero, suc, ◌+◌, ◌-◌, ◌*◌, ◌/◌, ◌%◌, ◌^◌, max, min, cond, ◌==◌}
use Rattle.std.specs.Int.{w64, leading_zeros}
use Rattle.streams.specs.Draws.{next_state, state_after, drawn}
use Rattle.streams.specs.declared.stream.Packet.{Packet}
use Rattle.streams.specs.declared.stream.Stream.{Stream}

abbrev pub binary_digits : ℕ → ℕ
binary_digits n = 64 - leading_zeros w64 n

abbrev pub among : ℕ → ℕ → ℕ
among flows draw = max (flows / 2 ^ (draw % max (binary_digits flows) 1)) 1

abbrev pub flow_from : ℕ → ℕ → ℕ → ℕ
flow_from flows first second = second % among flows first

abbrev pub weight_from : ℕ → ℕ → ℕ
weight_from most draw = 1 + draw % max most 1

abbrev pub packet_from : ℕ → ℕ → ℕ → Packet
packet_from flows most state = record {
  flow = flow_from flows (drawn (next_state state)) (drawn (next_state (next_state state)));
  weight = weight_from most (drawn (next_state (next_state (next_state state))));
}

abbrev pub packet_at : Stream → ℕ → Packet
packet_at s index = packet_from s.flows s.most (state_after s.seed (index * 3))

abbrev pub weight_of : ℕ → Packet → ℕ
weight_of flow p = cond (p.flow == flow) p.weight 0

abbrev pub volume_between : Stream → ℕ → ℕ → ℕ → ℕ
volume_between s flow from zero = 0
volume_between s flow from (suc n) = volume_between s flow from n + weight_of flow (packet_at s (from + n))

abbrev pub volume_in_window : Stream → ℕ → ℕ → ℕ → ℕ
volume_in_window s flow to window = volume_between s flow (to - window) (min window to)
