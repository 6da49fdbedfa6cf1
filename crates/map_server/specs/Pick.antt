-- The language `pick`: a map function is a program of it, and a reduce function is the name of one of its reduces.
use Rattle.view_ports.specs.Functions.{Functions}
use Rattle.map_server.specs.PickFunctions.{pick_compiles, pick_map, pick_reduce_compiles, pick_reduce, pick_rereduce}
use Rattle.map_server.specs.PickBounds.{pick_maps_are_proper}
use Rattle.map_server.specs.PickReduces.{pick_rejoins, pick_reduces_are_proper, pick_rereduces_are_proper}

-- the functions of the language
abbrev pub pick : Functions
pick = record {
  compiles = pick_compiles;
  map_of = pick_map;
  reduce_compiles = pick_reduce_compiles;
  reduce_of = pick_reduce;
  rereduce_of = pick_rereduce;
  rejoins = pick_rejoins;
  proper_maps = pick_maps_are_proper;
  proper_reduces = pick_reduces_are_proper;
  proper_rereduces = pick_rereduces_are_proper;
}
