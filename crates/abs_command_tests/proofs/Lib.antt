mod StatusLemmas
