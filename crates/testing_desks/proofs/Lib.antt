mod SoloLemmas
